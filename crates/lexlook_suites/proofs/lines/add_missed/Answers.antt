use Rattle.std.proofs.Common.{map}
use Rattle.std.proofs.lemmas.Result.{on_ok_weaker}
use Rattle.lexlook_suites.proofs.Lined.{edge_told}
use Rattle.lexlook_suites.proofs.lines.add_missed.Goals as goal

pub returns-in_ok-add_number-in-Some-2 : goal.returns-in_ok-add_number-in-Some-2
returns-in_ok-add_number-in-Some-2 c =
    on_ok_weaker c.add_text.result
    (edge_told (map (λ n. n.now) c.args.names.now) c.args.missed.now c.in-Some.shown c.args.text.now.items _ _ _ _ _ c.in-Some.is
    c.in_ok-add-in-Some.ensures c.in_ok-add_number-in-Some.ensures c.in_ok-add-in-Some-2.ensures c.in_ok-add_number-in-Some-2.ensures)
    c.add_text.ensures
