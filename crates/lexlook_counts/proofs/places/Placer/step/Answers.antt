use Rattle.std.proofs.Common.{Ok, subst}
use Rattle.lexscan.specs.Pulls.{whole_token}
use Rattle.lexscan.specs.Scanners.{pull_finished}
use Rattle.lexlook_counts.specs.Reading.{ReadsOn, text_read}
use Rattle.lexlook_counts.specs.declared.reading.Read.{Read}
use Rattle.lexlook_counts.proofs.Placing.{line_stops, placed_more, placed_one, reading_stops}
use Rattle.lexlook_counts.proofs.places.Placer.step.Goals as goal

pub returns-in-Ok : goal.returns-in-Ok
returns-in-Ok g c M s0 t0 h =
    let t = c.in-Ok-Token.token in
    let r = c.read_on.new.self in
    let read = subst (λ (u : Read). ReadsOn g.S.Source.gave g.S.Source.ends g.S.Source.failures M s0 c.read_on.new.source h.given h.tokens c.args.self.now.reader r c.clear.new.self.items c.read_on.new.kept.items (Ok u)) c.in-Ok-Token.field-0-is (c.in-Ok-Token.ensures M s0 h.given h.tokens h.read) in
    placed_one g.S.Source.gave g.S.Source.ends g.S.Source.failures g.K.Sink.wrote g.K.Sink.failures M c.args.lines.now s0 c.args.source.now t0 c.args.sink.now c.args.self.now h
    c.read_on.new.source c.tell.new.self (whole_token t) (text_read r) c.tell.new.sink r c.tell.ensures.reader read.0 read.1
    (g.met.K.Sink.wrote_more t0 c.args.sink.now c.tell.new.sink _ _ h.written c.in-Ok.ensures.written) c.in-Ok.ensures.writes

pub returns-in-Err-tell : goal.returns-in-Err-tell
returns-in-Err-tell g c M s0 t0 h =
    let t = c.in-Ok-Token.token in
    let r = c.read_on.new.self in
    let read = subst (λ (u : Read). ReadsOn g.S.Source.gave g.S.Source.ends g.S.Source.failures M s0 c.read_on.new.source h.given h.tokens c.args.self.now.reader r c.clear.new.self.items c.read_on.new.kept.items (Ok u)) c.in-Ok-Token.field-0-is (c.in-Ok-Token.ensures M s0 h.given h.tokens h.read) in
    line_stops g.S.Source.gave g.S.Source.ends g.S.Source.failures g.K.Sink.wrote g.K.Sink.failures M c.args.lines.now s0 c.args.source.now t0 c.args.sink.now c.args.self.now h
    c.read_on.new.source (whole_token t) (text_read r) c.tell.new.sink c.in-Err-tell.error r read.0 read.1 read.2 (λ xs ys a b. g.met.K.Sink.wrote_more t0 c.args.sink.now c.tell.new.sink xs ys a b) c.in-Err-tell.ensures.refused c.in-Err-tell.ensures.writes

pub returns-in-Ok-Fed : goal.returns-in-Ok-Fed
returns-in-Ok-Fed g c M s0 t0 h =
    let r = c.read_on.new.self in
    let read = subst (λ (u : Read). ReadsOn g.S.Source.gave g.S.Source.ends g.S.Source.failures M s0 c.read_on.new.source h.given h.tokens c.args.self.now.reader r c.clear.new.self.items c.read_on.new.kept.items (Ok u)) c.in-Ok-Fed.field-0-is (c.in-Ok-Fed.ensures M s0 h.given h.tokens h.read) in
    placed_more g.S.Source.gave g.S.Source.ends g.S.Source.failures g.K.Sink.wrote g.K.Sink.failures M c.args.lines.now s0 c.args.source.now t0 c.args.sink.now c.args.self.now h c.read_on.new.source read.0 (record c.args.self.now { reader = r; fed = c.read_on.new.kept }) read.1

pub returns-in-Ok-Ended : goal.returns-in-Ok-Ended
returns-in-Ok-Ended g c M s0 t0 h =
    let r = c.read_on.new.self in
    let read = subst (λ (u : Read). ReadsOn g.S.Source.gave g.S.Source.ends g.S.Source.failures M s0 c.read_on.new.source h.given h.tokens c.args.self.now.reader r c.clear.new.self.items c.read_on.new.kept.items (Ok u)) c.in-Ok-Ended.field-0-is (c.in-Ok-Ended.ensures M s0 h.given h.tokens h.read) in
    record { given = h.given; at_end = pull_finished c.args.self.now.reader.scanner; tokens = h.tokens; read = read.0; written = h.written; writes = h.writes }

pub returns-in-Err : goal.returns-in-Err
returns-in-Err g c M s0 t0 h =
    reading_stops g.S.Source.gave g.S.Source.ends g.S.Source.failures g.K.Sink.wrote g.K.Sink.failures M c.args.lines.now s0 c.args.source.now t0 c.args.sink.now c.args.self.now h c.read_on.new.source c.in-Err.error (c.in-Err.ensures M s0 h.given h.tokens h.read)
