use Rattle.std.proofs.Common.{◌≡◌, ◌∙◌, Bool, ℕ, List, [], ◌∷◌, ◌++◌, ap, append-nil, arith, length, subst, sym, take, Ok, Option}
use Rattle.std.proofs.lemmas.List.{take_all}
use Rattle.lex_io.specs.Source.{given}
use Rattle.lex_io.specs.declared.source.ReadFault.{ReadFault}
use Rattle.lexscan.specs.Pulls.{TokensTold}
use Rattle.lexscan.specs.Scanners.{pull_finished, pull_state, pull_waiting}
use Rattle.lexlook_counts.specs.Reading.{reader_machine}
use Rattle.lexlook_counts.proofs.reading.TokenReader.feed_on.Goals as goal

pub returns-in-Err-clause-fed : goal.returns-in-Err-clause-fed
returns-in-Err-clause-fed g c = record { given = []; source = g.met.S.Source.gave_none c.args.source.now; keeps = tt; told = λ fed tokens h. tt }

pub returns-in-Err-extend_from_slice-clause-fed : goal.returns-in-Err-extend_from_slice-clause-fed
returns-in-Err-extend_from_slice-clause-fed g c = record { given = []; source = g.met.S.Source.gave_none c.args.source.now; keeps = tt; told = λ fed tokens h. tt }

pub returns-then-count-ne0-clause-fed : goal.returns-then-count-ne0-clause-fed
returns-then-count-ne0-clause-fed g c =
    let w = c.args.self.now in
    let s = c.feed.new.self in
    let ready = g.S.Source.ready c.args.source.now in
    let all : take (length c.ahead-ready.result.now) ready ≡ c.ahead-ready.result.now = ap (take (length c.ahead-ready.result.now)) (sym c.ahead-ready.ensures) ∙ take_all (length c.ahead-ready.result.now) c.ahead-ready.result.now (omega arith) in
    record {
      given = c.ahead-ready.result.now;
      source = subst (λ (xs : List ℕ). g.S.Source.gave c.args.source.now xs c.give.new.self) all c.give.ensures.bytes;
      keeps = c.in-Ok-extend_from_slice.ensures.items;
      told = λ fed tokens h. subst (λ (b : Bool). TokensTold (reader_machine w) (fed ++ c.ahead-ready.result.now) b tokens (pull_state s) (pull_waiting s)) (sym (c.feed.ensures.unfinished ∙ c.requires.unfinished))
          (c.in-Ok.ensures.told fed tokens c.requires.unfinished h);
    }

pub returns-in-Ok-None-clause-fed : goal.returns-in-Ok-None-clause-fed
returns-in-Ok-None-clause-fed g c =
    let w = c.args.self.now in
    let s = c.finish.new.self in
    record {
      given = [];
      source = subst (λ (o : Option ℕ). g.S.Source.gave c.args.source.now (given {E = ReadFault} (Ok o)) c.next.new.self) c.in-Ok-None.field-0-is c.in-Ok-None.ensures.byte;
      keeps = sym (append-nil c.args.kept.now.items);
      told = λ fed tokens h. subst (λ (l : List ℕ). TokensTold (reader_machine w) l (pull_finished s) tokens (pull_state s) (pull_waiting s)) (sym (append-nil fed))
          (subst (λ (b : Bool). TokensTold (reader_machine w) fed b tokens (pull_state s) (pull_waiting s)) (sym c.finish.ensures.finished)
          (c.finish.ensures.told fed tokens (subst (λ (b : Bool). TokensTold (reader_machine w) fed b tokens (pull_state w.scanner) (pull_waiting w.scanner)) (sym c.requires.unfinished) h)));
    }

pub returns-in-Ok-push-clause-fed : goal.returns-in-Ok-push-clause-fed
returns-in-Ok-push-clause-fed g c =
    let w = c.args.self.now in
    let s = c.feed-in-Ok-Some.new.self in
    record {
      given = c.in-Ok-Some.byte ∷ [];
      source = subst (λ (o : Option ℕ). g.S.Source.gave c.args.source.now (given {E = ReadFault} (Ok o)) c.next.new.self) c.in-Ok-Some.field-0-is c.in-Ok-Some.ensures.byte;
      keeps = c.in-Ok-push.ensures.items;
      told = λ fed tokens h. subst (λ (b : Bool). TokensTold (reader_machine w) (fed ++ c.in-Ok-Some.byte ∷ []) b tokens (pull_state s) (pull_waiting s)) (sym (c.feed-in-Ok-Some.ensures.unfinished ∙ c.requires.unfinished))
          (c.in-Ok-feed.ensures.told fed tokens c.requires.unfinished h);
    }
