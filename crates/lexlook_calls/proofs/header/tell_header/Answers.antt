use Rattle.std.proofs.Common.{◌≡◌, ◌∙◌, ℕ, List, Err, ap, subst}
use Rattle.lex_io.specs.Sink.{Appended}
use Rattle.lexspec.specs.Views.{rules_in, spec_of}
use Rattle.lexlook_calls.specs.Headers.{called, header}
use Rattle.lexlook_calls.specs.declared.error.LookError.TheVariants.{Write}
use Rattle.lexlook_calls.proofs.header.tell_header.Goals as goal

pub returns-in-Err-put-clause-told : goal.returns-in-Err-put-clause-told
returns-in-Err-put-clause-told g c =
    let S = spec_of c.in_ok-spec.spec in
    let lines : c.as_slice.result.now ≡ header c.args.language (called (rules_in S)) =
    c.as_slice.ensures.value ∙ c.in-Ok.ensures ∙ ap (λ rs. header c.args.language (called rs)) c.rules.ensures.rules in
    record {
      spec = S;
      spells = c.in_ok-spec.ensures.spells;
      written = subst (λ (bytes : List ℕ). Appended {T = Unit {0}} (λ xs. g.K.Sink.wrote c.args.sink.now xs c.put.new.self) bytes (Err Write)) lines c.in-Err-put.ensures.bytes;
    }

pub returns-clause-told : goal.returns-clause-told
returns-clause-told g c =
    let S = spec_of c.in_ok-spec.spec in
    let lines : c.as_slice.result.now ≡ header c.args.language (called (rules_in S)) =
    c.as_slice.ensures.value ∙ c.in-Ok.ensures ∙ ap (λ rs. header c.args.language (called rs)) c.rules.ensures.rules in
    record {
      spec = S;
      spells = c.in_ok-spec.ensures.spells;
      written = subst (λ (bytes : List ℕ). g.K.Sink.wrote c.args.sink.now bytes c.put.new.self) lines c.in-Ok-put.ensures.bytes;
    }
