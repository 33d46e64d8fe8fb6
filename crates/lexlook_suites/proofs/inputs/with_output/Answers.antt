use Rattle.std.proofs.Common.{List, ℕ, refl, subst}
use Rattle.lex_semantics.specs.Acting.{Status}
use Rattle.lex_semantics.specs.Run.{Run}
use Rattle.lex_semantics.specs.Text.{IsText}
use Rattle.lexlook_suites.specs.Gathers.{rules_by}
use Rattle.lexlook_suites.proofs.Suited.{run_ends}
use Rattle.lexlook_suites.proofs.inputs.with_output.Goals as goal

pub returns : goal.returns
returns c =
    let R = rules_by c.args.machine.now in
    let x = c.args.text.items in
    let out = c.in_ok-output.output.items in
    let r = c.in_ok-output.ensures.ran in (
      refl,
      record {
        is_text = subst IsText c.as_slice.ensures.value c.in_ok-output.ensures.text;
        scanned = c.requires;
        ran = run_ends R x out c.args.tokens.items (Status c.args.status) (Status r.0) c.requires (subst (λ (l : List ℕ). Run R l out (Status r.0)) c.as_slice.ensures.value r.1);
      },
    )
