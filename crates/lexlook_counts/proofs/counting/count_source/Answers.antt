use Rattle.std.proofs.Common.{◌≡◌, ℕ, ◌+◌, [], Ok, Option, arith, false, subst, sym}
use Rattle.lexscan.specs.Scanners.{pull_finished}
use Rattle.lextab_packed.specs.FlatViews.{tables_of}
use Rattle.lextab_packed.specs.Machines.{table_machine}
use Rattle.lexlook_counts.specs.Costs.{tokens_in}
use Rattle.lexlook_counts.specs.Counting.{CountsAll, CountsOn}
use Rattle.lexlook_counts.proofs.Fed.{by_memory, few_ends, fresh}
use Rattle.lexlook_counts.proofs.counting.count_source.Goals as goal

pub steps-init : goal.steps-init
steps-init g c =
    let M = table_machine (tables_of c.args.machines.scans) in
    let f = c.in-Ok.ensures in
    record {
      given = [];
      costs = [];
      read = fresh g.S.Source.gave g.S.Source.ends g.S.Source.failures M c.args.source.now c.in-Ok.scan.reader (g.met.S.Source.gave_none c.args.source.now) f.reader;
      machine = f.machine;
      holds = f.holds;
      looked = λ x k. tt;
      counts = f.counts;
      given_up = [];
      gave_up = λ x k. tt;
      counts_given_up = f.none_given_up;
      last = f.none_yet;
    }

pub step-requires-clause-counted : goal.step-requires-clause-counted
step-requires-clause-counted g c = (table_machine (tables_of c.args.machines.scans), table_machine (tables_of c.args.machines.looks), c.args.rules, c.args.conditions, c.args.source.now, c.steps.invariant)

pub step-requires-clause-ends : goal.step-requires-clause-ends
step-requires-clause-ends g c =
    let h = c.steps.invariant in
    few_ends g.S.Source.gave g.S.Source.ends g.S.Source.failures (table_machine (tables_of c.args.machines.scans)) c.args.source.now c.steps.source h.given (tokens_in h.costs) c.steps.scan.reader h.read c.requires.ends

pub step-requires-clause-reads : goal.step-requires-clause-reads
step-requires-clause-reads g c = omega (arith, c.steps.invariant.read.reads, c.requires.reads)

pub returns-in-Ok-Some : goal.returns-in-Ok-Some
returns-in-Ok-Some g c =
    let M = table_machine (tables_of c.args.machines.scans) in
    let N = table_machine (tables_of c.args.machines.looks) in
    let all = subst (λ (o : Option ℕ). CountsOn g.S.Source.gave g.S.Source.ends g.S.Source.failures M N c.args.rules c.args.conditions c.args.source.now c.step.new.source c.step.new.self (Ok o)) c.in-Ok-Some.field-0-is
    (c.in-Ok-Some.ensures M N c.args.rules c.args.conditions c.args.source.now c.steps.invariant) in
    subst (λ (n : ℕ). CountsAll g.S.Source.gave g.S.Source.ends g.S.Source.failures M N c.args.rules c.args.conditions c.args.source.now c.step.new.source c.in-Ok-Some.status c.step.new.self.tally c.step.new.self.given_up.counts.items c.step.new.self.last n) (sym c.condition-condition.ensures) all

pub returns-in-Err-step : goal.returns-in-Err-step
returns-in-Err-step g c = c.in-Err-step.ensures (table_machine (tables_of c.args.machines.scans)) (table_machine (tables_of c.args.machines.looks)) c.args.rules c.args.conditions c.args.source.now c.steps.invariant

pub steps-preserved : goal.steps-preserved
steps-preserved g c =
    let M = table_machine (tables_of c.args.machines.scans) in
    let N = table_machine (tables_of c.args.machines.looks) in
    subst (λ (o : Option ℕ). CountsOn g.S.Source.gave g.S.Source.ends g.S.Source.failures M N c.args.rules c.args.conditions c.args.source.now c.step.new.source c.step.new.self (Ok o)) c.in-Ok-None.field-0-is
    (c.in-Ok-None.ensures M N c.args.rules c.args.conditions c.args.source.now c.steps.invariant)

pub returns-in-Err : goal.returns-in-Err
returns-in-Err g c = (
  [],
  false,
  record {
    source = g.met.S.Source.gave_none c.args.source.now;
    ends = (let zero : g.S.Source.ends c.args.source.now ≡ g.S.Source.ends c.args.source.now + 0 = omega arith in zero);
    reads = (let zero : g.S.Source.failures c.args.source.now ≡ g.S.Source.failures c.args.source.now + 0 = omega arith in zero);
    stack = λ e. cc;
    not_write = λ e. cc;
  },
)

pub returns : goal.returns
returns g c =
    let h = c.steps.invariant in
    (h.given, pull_finished c.steps.scan.reader.scanner, by_memory g.S.Source.gave g.S.Source.ends g.S.Source.failures (table_machine (tables_of c.args.machines.scans)) c.args.source.now c.steps.source h.given (tokens_in h.costs) c.steps.scan.reader h.read)
