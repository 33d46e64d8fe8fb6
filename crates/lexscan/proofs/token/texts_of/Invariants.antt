use Rattle.std.proofs.Common.{◌≡◌, map, take}
use Rattle.lex_semantics.specs.Text.{part}
use Rattle.lexscan.proofs.token.texts_of.Given as goal

abbrev pub invariant-loop-token : goal.invariant-loop-token
invariant-loop-token l = map (λ s. s.now) l.texts.items ≡ map (λ t. part l.input t.start t.end) (take l.token-index l.tokens)
