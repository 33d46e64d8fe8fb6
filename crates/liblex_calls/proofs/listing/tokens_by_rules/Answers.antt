use Rattle.std.proofs.Common.{rules, ◌≡◌, Err, refl, subst}
use Rattle.lex_semantics.specs.Acting.{Status}
use Rattle.lex_semantics.specs.Machine.{rules_of_machine}
use Rattle.lexscan_window.specs.declared.error.RunError.TheVariants as runs
use Rattle.lexscan.specs.Tokens.{Tokenised, Stopped}
use Rattle.liblex_calls.specs.Gathering.{Gathers}
use Rattle.liblex_calls.specs.Rules.{rules_machine}
use Rattle.liblex_calls.proofs.Listed.{listed_out}
use Rattle.liblex_calls.proofs.listing.tokens_by_rules.Goals as goal

pub returns-in-Ok : goal.returns-in-Ok
returns-in-Ok c file is =
    let (tokens, kept, all) = c.in-Ok.ensures.gathers (rules_machine c.args.rules) (c.new-scan.ensures.feeds c.args.input.now) c.new-kept.ensures.kept in
    listed_out file c.args.input.now c.args.buffer.now c.hand_tokens.new.buffer c.hand_tokens.new.count c.in-Ok.end c.hand_tokens.result tokens
    (record {
      table = is.table;
      is_file = is.is_file;
      goes_on = is.goes_on;
      leads = is.leads;
      holds = subst (λ N. Tokenised (rules_of_machine N) c.args.input.now tokens (Status c.in-Ok.end)) is.is all;
    })
    (c.hand_tokens.ensures.handed tokens kept)
    (c.hand_tokens.ensures.fits tokens kept)

pub returns-in-Err-Stack : goal.returns-in-Err-Stack
returns-in-Err-Stack c file is =
    let M = rules_machine c.args.rules in
    let stopped : c.gather.result ≡ Err runs.Stack = search rules in
    let comes = subst (λ r. Gathers M c.args.input.now c.gather.new.kept r) stopped (c.gather.ensures.gathers M (c.new-scan.ensures.feeds c.args.input.now) c.new-kept.ensures.kept) in
    let (tokens, kept, some) = comes refl in (
      record {
        tokens = tokens;
        listed = record {
          table = is.table;
          is_file = is.is_file;
          goes_on = is.goes_on;
          leads = is.leads;
          holds = subst (λ N. Stopped (rules_of_machine N) c.args.input.now tokens runs.Stack) is.is some;
        };
        handed = c.hand_tokens-in-Err-Stack.ensures.handed tokens kept;
      },
      refl,
    )
