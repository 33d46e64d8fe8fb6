use mathlib.Core.Path.{fun_ext}
use Rattle.std.proofs.Common.{◌≡◌, ◌++◌, ◌∙◌, ap}
use Rattle.std.specs.Prelude.{slice_index}
use Rattle.std.proofs.lemmas.Result.{on_ok_weaker}
use Rattle.lexauto_dfa.specs.Automata.{accepts_of, next_of}
use Rattle.lexlook_specs.specs.Pictures.{node_line, edges}
use Rattle.lexlook_specs.proofs.Joining.{and_then}
use Rattle.lexlook_specs.proofs.picture.writing.add_state_lines.Goals as goal

pub returns-clause-text : goal.returns-clause-text
returns-clause-text c =
    let s = c.args.state in
    let rules : c.accepts.result.now ≡ accepts_of c.args.dfa.now s = c.accepts.ensures.rules in
    let go : slice_index c.row_of.result.now ≡ next_of c.args.dfa.now s = fun_ext c.row_of.ensures.targets in
    let own : _ ≡ _ = c.in_ok-add_state.ensures ∙ ap (λ r. c.args.text.now.items ++ node_line c.args.lines.now s r) rules in
    on_ok_weaker c.add_edges.result (λ e. and_then _ _ _ _ _ own (e ∙ ap (λ f. c.add_state.new.text.items ++ edges s f) go)) c.add_edges.ensures.text
