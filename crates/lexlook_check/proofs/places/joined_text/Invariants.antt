use Rattle.std.proofs.Common.{◌≡◌, take}
use Rattle.lexlook_check.specs.Places.{joined_text}
use Rattle.lexlook_check.proofs.places.joined_text.Given as goal

abbrev pub invariant-loop-file : goal.invariant-loop-file
invariant-loop-file l = l.text.items ≡ joined_text (take l.file-index l.files)
