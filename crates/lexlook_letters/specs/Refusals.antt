-- Why a pattern is refused while its text is written. (This project's.)
use Rattle.std.specs.Prelude.{◌≡◌, ℕ, ◌<◌, ◌⊎◌}
use Rattle.lexlook_letters.specs.declared.spelling.LettersError.{LettersError}
use Rattle.lexlook_letters.specs.declared.spelling.LettersError.TheVariants.{OutOfMemory, TooBig}

-- memory ran out, or fewer nodes are left than are wanted
abbrev pub IsRefusedFor : LettersError → ℕ → ℕ → Type 0
IsRefusedFor e left wanted = (e ≡ OutOfMemory) ⊎ ((e ≡ TooBig) × (left < wanted))
