use Rattle.std.proofs.Common.{◌≡◌, ◌∙◌, ◌++◌, List, ℕ, ap, append_assoc}
use Rattle.std.specs.Prelude.{codes}
use Rattle.std.proofs.lemmas.Result.{on_ok_weaker}
use Rattle.lexlook_specs.proofs.Joining.{in_six}
use Rattle.lexlook_counts.specs.CountLines.{counted_subject, json_field, json_last}
use Rattle.lexlook_counts.specs.declared.lines.LineKind.TheVariants as kinds
use Rattle.lexlook_counts.proofs.lines.add_json.Goals as goal

-- the last two parts as one
joined : (text five last a b : List ℕ) → last ≡ five ++ a → text ≡ last ++ b → text ≡ five ++ (a ++ b)
joined text five last a b e h = h ∙ ap (λ (l : List ℕ). l ++ b) e ∙ append_assoc five a b

pub returns : goal.returns
returns c =
    let n = c.args.count in
    on_ok_weaker c.add-2.result
    (λ h.
    in_six c.args.text.now.items (codes "{") (counted_subject kinds.Json c.args.subject) (json_field (codes ",\"matches\":") n.matches) (json_field (codes ",\"bytes\":") n.bytes) (json_field (codes ",\"longest\":") n.longest) (json_last n.beyond c.args.given_up ++ codes "}\n") _ _ _ _ _ _
    c.in_ok-add.ensures c.in_ok-add_subject.ensures c.in_ok-add_field.ensures c.in_ok-add_field-2.ensures c.in_ok-add_field-3.ensures (joined _ _ _ _ _ c.in_ok-add_json_last.ensures h))
    c.add-2.ensures
