use Rattle.std.proofs.Common.{Some, ◌≡◌, ◌∙◌, Bool, ◌++◌, Ok, refl, subst, sym}
use Rattle.lex_semantics.specs.Demand.{Consistent}
use Rattle.lexscan.specs.Scanners.{pull_finished}
use Rattle.lexlook_counts.specs.Costs.{end_of, tokens_in}
use Rattle.lexlook_counts.specs.Descending.{CountsTurn}
use Rattle.lexlook_counts.specs.Looking.{Holds, looker_machine}
use Rattle.lexlook_counts.specs.Reading.{ReadsOn, StopsBy}
use Rattle.lexscan_window.specs.declared.error.RunError.{RunError}
use Rattle.lexscan_window.specs.declared.error.RunError.TheVariants as runs
use Rattle.lexlook_counts.specs.declared.reading.Read.{Read}
use Rattle.lexlook_counts.specs.declared.looking.Looker.{Looker}
use Rattle.lexlook_counts.proofs.Fed.{by_memory, has_told}
use Rattle.lexlook_counts.proofs.Counted.{counted_more, counted_one, holds_more}
use Rattle.lexlook_counts.proofs.counting.Counter.step.Goals as goal

pub read_on-requires-clause-told : goal.read_on-requires-clause-told
read_on-requires-clause-told g c =
    let (M, N, rules, conditions, s0, h) = c.requires.counted in
    has_told g.S.Source.gave g.S.Source.ends g.S.Source.failures M s0 c.args.source.now h.given (tokens_in h.costs) c.args.self.now.reader h.read

pub pass-requires : goal.pass-requires
pass-requires g c =
    let (M, N, rules, conditions, s0, h) = c.requires.counted in
    let w = c.args.self.now in
    let r = c.read_on.new.self in
    let read = subst (λ (u : Read). ReadsOn g.S.Source.gave g.S.Source.ends g.S.Source.failures M s0 c.read_on.new.source h.given (tokens_in h.costs) w.reader r w.looker.bytes.items c.read_on.new.kept.items (Ok u)) c.in-Ok-Token.field-0-is (c.in-Ok-Token.ensures M s0 h.given (tokens_in h.costs) h.read) in
    let holds : Holds h.given (end_of 0 h.costs) (record w.looker { bytes = c.read_on.new.kept }) = record { inside = h.holds.inside; bytes = read.3 ∙ h.holds.bytes; here = h.holds.here; marks = h.holds.marks } in
    (h.given, end_of 0 h.costs, holds)

pub returns-in-Some : goal.returns-in-Some
returns-in-Some g c M N rules conditions s0 h =
    let w = c.args.self.now in
    let r = c.read_on.new.self in
    let read = subst (λ (u : Read). ReadsOn g.S.Source.gave g.S.Source.ends g.S.Source.failures M s0 c.read_on.new.source h.given (tokens_in h.costs) w.reader r w.looker.bytes.items c.read_on.new.kept.items (Ok u)) c.in-Ok-Token.field-0-is (c.in-Ok-Token.ensures M s0 h.given (tokens_in h.costs) h.read) in
    let held : Looker = record w.looker { bytes = c.read_on.new.kept } in
    let holds : Holds h.given (end_of 0 h.costs) held = record { inside = h.holds.inside; bytes = read.3 ∙ h.holds.bytes; here = h.holds.here; marks = h.holds.marks } in
    let passed = c.in-Some.ensures.passed h.given (end_of 0 h.costs) holds in
    let turn = c.in-Ok.ensures.counted h.given (end_of 0 h.costs) holds in
    counted_one g.S.Source.gave g.S.Source.ends g.S.Source.failures M N rules conditions s0 c.args.source.now w h c.read_on.new.source (record { reader = r; looker = c.pass.new.self; tally = c.count.new.self; given_up = c.count_next.new.self; last = Some c.in-Ok-Token.token.rule }) c.in-Ok-Token.token c.in-Some.beyond
    read.0 read.2 c.pass.ensures.machine passed.0
    (λ x k. passed.1 x (subst (λ (b : Bool). Consistent h.given b x) (sym c.is_finished-finished.ensures) k))
    (c.count.ensures rules conditions h.costs h.counts)
    (subst (λ (b : Bool). CountsTurn (looker_machine w.looker) h.given (end_of 0 h.costs) c.in-Ok-Token.token.condition b w.given_up.counts.items c.count_next.new.self.counts.items) c.is_finished-finished.ensures turn)
    refl

pub returns-in-None : goal.returns-in-None
returns-in-None g c M N rules conditions s0 h =
    let w = c.args.self.now in
    let r = c.read_on.new.self in
    let read = subst (λ (u : Read). ReadsOn g.S.Source.gave g.S.Source.ends g.S.Source.failures M s0 c.read_on.new.source h.given (tokens_in h.costs) w.reader r w.looker.bytes.items c.read_on.new.kept.items (Ok u)) c.in-Ok-Token.field-0-is (c.in-Ok-Token.ensures M s0 h.given (tokens_in h.costs) h.read) in
    (h.given, pull_finished r.scanner, by_memory g.S.Source.gave g.S.Source.ends g.S.Source.failures M s0 c.read_on.new.source h.given _ r read.0)

pub returns-in-Err-count_next : goal.returns-in-Err-count_next
returns-in-Err-count_next g c M N rules conditions s0 h =
    let w = c.args.self.now in
    let r = c.read_on.new.self in
    let read = subst (λ (u : Read). ReadsOn g.S.Source.gave g.S.Source.ends g.S.Source.failures M s0 c.read_on.new.source h.given (tokens_in h.costs) w.reader r w.looker.bytes.items c.read_on.new.kept.items (Ok u)) c.in-Ok-Token.field-0-is (c.in-Ok-Token.ensures M s0 h.given (tokens_in h.costs) h.read) in
    let out : c.in-Err-count_next.error ≡ runs.OutOfMemory = c.in-Err-count_next.ensures.refused in (
      h.given,
      pull_finished r.scanner,
      subst (λ (e : RunError). StopsBy g.S.Source.gave g.S.Source.ends g.S.Source.failures M s0 c.read_on.new.source h.given (pull_finished r.scanner) e) (sym out)
          (by_memory g.S.Source.gave g.S.Source.ends g.S.Source.failures M s0 c.read_on.new.source h.given _ r read.0),
    )

pub returns-in-Ok-Fed : goal.returns-in-Ok-Fed
returns-in-Ok-Fed g c M N rules conditions s0 h =
    let w = c.args.self.now in
    let r = c.read_on.new.self in
    let read = subst (λ (u : Read). ReadsOn g.S.Source.gave g.S.Source.ends g.S.Source.failures M s0 c.read_on.new.source h.given (tokens_in h.costs) w.reader r w.looker.bytes.items c.read_on.new.kept.items (Ok u)) c.in-Ok-Fed.field-0-is (c.in-Ok-Fed.ensures M s0 h.given (tokens_in h.costs) h.read) in
    let held : Looker = record w.looker { bytes = c.read_on.new.kept } in
    counted_more g.S.Source.gave g.S.Source.ends g.S.Source.failures M N rules conditions s0 c.args.source.now w h c.read_on.new.source (record w { reader = r; looker = held }) read.0
    read.1 read.2 refl (holds_more h.given read.0 (end_of 0 h.costs) w.looker held h.holds refl refl refl refl read.3) refl refl refl

pub returns-in-Ok-Ended : goal.returns-in-Ok-Ended
returns-in-Ok-Ended g c M N rules conditions s0 h =
    let w = c.args.self.now in
    let read = subst (λ (u : Read). ReadsOn g.S.Source.gave g.S.Source.ends g.S.Source.failures M s0 c.read_on.new.source h.given (tokens_in h.costs) w.reader c.read_on.new.self w.looker.bytes.items c.read_on.new.kept.items (Ok u)) c.in-Ok-Ended.field-0-is (c.in-Ok-Ended.ensures M s0 h.given (tokens_in h.costs) h.read) in
    record { given = h.given; at_end = pull_finished w.reader.scanner; costs = h.costs; read = read.0; looked = h.looked; counts = h.counts; given_up = h.given_up; gave_up = h.gave_up; given_up_is = h.counts_given_up; last = h.last; comes = read.1 }

pub returns-in-Err : goal.returns-in-Err
returns-in-Err g c M N rules conditions s0 h =
    let behind = c.in-Err.ensures M s0 h.given (tokens_in h.costs) h.read in
    (h.given ++ behind.more, behind.at_end, behind.stops)
