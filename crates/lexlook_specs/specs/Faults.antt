-- How often the sink of a picture failed. (This project's.)
use Rattle.std.specs.Prelude.{ℕ, Result, Ok, Err}
use Rattle.lexlook_specs.specs.declared.picture.error.PictureError.{PictureError}
use Rattle.lexlook_specs.specs.declared.picture.error.PictureError.TheVariants.{Write, OutOfMemory}

-- 1 where the answer is a write fault
abbrev pub picture_fault_count : {T : Type 0} → Result T PictureError → ℕ
picture_fault_count (Ok v) = 0
picture_fault_count (Err Write) = 1
picture_fault_count (Err OutOfMemory) = 0
