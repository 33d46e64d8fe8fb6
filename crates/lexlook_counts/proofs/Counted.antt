-- The counts of turns, as more is read.
use Rattle.std.proofs.Common.{◌≡◌, ◌∙◌, ℕ, Bool, false, List, [], ◌∷◌, ◌++◌, drop, ap, sym, subst, arith, length-append}
use Rattle.std.specs.List.{concat}
use Rattle.std.proofs.lemmas.List.{drop-append-le}
use Rattle.lex_semantics.specs.Demand.{Consistent}
use Rattle.lex_semantics.specs.Machine.{Machine, rules_of_machine}
use Rattle.lexscan.specs.Pulls.{whole_token}
use Rattle.lexscan.specs.Scanners.{pull_finished}
use Rattle.lexscan.specs.declared.pull.PulledToken.{PulledToken}
use Rattle.lextab_packed.specs.FlatViews.{tables_of}
use Rattle.lextab_packed.specs.Machines.{table_machine, table_states}
use Rattle.lextab_packed.specs.declared.flat.Flat.{Flat}
use Rattle.lexlook_counts.specs.Costs.{IsCost, cost_by, end_of, tokens_in}
use Rattle.lexlook_counts.specs.Counting.{HasCounted}
use Rattle.lexlook_counts.specs.Counts.{IsTallyOf}
use Rattle.lexlook_counts.specs.Descending.{CountsTurn}
use Rattle.lexlook_counts.specs.GivenUp.{GivesUp, given_counts}
use Rattle.std.proofs.Common.{Option, Some, None}
use Rattle.std.proofs.lemmas.List.Sums.{fold-append}
use Rattle.lexscan.specs.declared.token.Token.{Token}
use Rattle.lexscan_window.specs.declared.matched.MatchedRule.{MatchedRule}
use Rattle.lexlook_counts.specs.Ends.{last_rule}
use Rattle.lexlook_counts.specs.Looking.{Holds, looker_machine}
use Rattle.lexlook_counts.specs.Reading.{HasRead}
use Rattle.lexlook_counts.specs.FarWalks.{AreTrueOf}
use Rattle.lexlook_counts.specs.declared.counting.Counter.{Counter}
use Rattle.lexlook_counts.specs.declared.given_up.GivenUp.{GivenUp}
use Rattle.lexlook_counts.specs.declared.looking.Looker.{Looker}
use Rattle.lexlook_counts.proofs.Costing.{costs_more, end_more, tokens_more}
use Rattle.lexlook_counts.proofs.Fed.{goes_on_so}
use Rattle.lexlook_counts.proofs.Turns.{concat_more, given_more}
use Rattle.lexlook_counts.proofs.Walked.{marks_more}

-- the bytes that are held, with those that were fed
pub holds_more : (given more : List ℕ) (at : ℕ) (l m : Looker) → Holds given at l → m.machine ≡ l.machine → m.base ≡ l.base → m.at ≡ l.at → m.memo ≡ l.memo → m.bytes.items ≡ l.bytes.items ++ more → Holds (given ++ more) at m
holds_more given more at l m h machine base here memo bytes = record {
  inside = (let long = length-append given more in omega (arith, h.inside, base, long));
  bytes = bytes ∙ ap (λ k. k ++ more) h.bytes ∙ sym (drop-append-le l.base given more h.inside) ∙ ap (λ n. drop n (given ++ more)) (sym base);
  here = here ∙ h.here;
  marks = subst (λ (f : Flat). AreTrueOf (table_machine (tables_of f)) (table_states (tables_of f)) (given ++ more) m.memo) (sym machine)
      (subst (AreTrueOf (looker_machine l) (table_states (tables_of l.machine)) (given ++ more)) (sym memo) (marks_more (looker_machine l) (table_states (tables_of l.machine)) given more l.memo h.marks));
}

module _ {A : Type 0} (gave : A → List ℕ → A → Type 0) (ends_of reads_of : A → ℕ) (M N : Machine) (rules conditions : ℕ) (s s' : A) (c : Counter) (h : HasCounted gave ends_of reads_of M N rules conditions s s' c) where
  -- more was fed
  pub counted_more : (s'' : A) (q : Counter) (more : List ℕ) → HasRead gave ends_of reads_of M s s'' (h.given ++ more) (tokens_in h.costs) q.reader → pull_finished c.reader.scanner ≡ false
      → looker_machine q.looker ≡ looker_machine c.looker → Holds (h.given ++ more) (end_of 0 h.costs) q.looker → q.tally ≡ c.tally → q.given_up ≡ c.given_up → q.last ≡ c.last → HasCounted gave ends_of reads_of M N rules conditions s s'' q
  counted_more s'' q more read going machine holds tally gives same = record {
    given = h.given ++ more;
    costs = h.costs;
    read = read;
    machine = machine ∙ h.machine;
    holds = holds;
    looked = λ x k. h.looked x (subst (λ (b : Bool). Consistent h.given b x) (sym going) (goes_on_so h.given more (pull_finished q.reader.scanner) x k));
    counts = subst (IsTallyOf rules conditions h.costs) (sym tally) h.counts;
    given_up = h.given_up;
    gave_up = λ x k. h.gave_up x (subst (λ (b : Bool). Consistent h.given b x) (sym going) (goes_on_so h.given more (pull_finished q.reader.scanner) x k));
    counts_given_up = ap (λ (g : GivenUp). g.counts.items) gives ∙ h.counts_given_up;
    last = same ∙ h.last;
  }

  -- a token more was told
  pub counted_one : (s'' : A) (q : Counter) (t : PulledToken) (beyond : ℕ) → HasRead gave ends_of reads_of M s s'' h.given (tokens_in h.costs ++ whole_token t ∷ []) q.reader → pull_finished q.reader.scanner ≡ pull_finished c.reader.scanner
      → looker_machine q.looker ≡ looker_machine c.looker → Holds h.given (whole_token t).end q.looker
      → ((x : List ℕ) → Consistent h.given (pull_finished q.reader.scanner) x → IsCost (rules_of_machine (looker_machine c.looker)) x (end_of 0 h.costs) (cost_by t beyond))
      → IsTallyOf rules conditions (h.costs ++ cost_by t beyond ∷ []) q.tally
      → CountsTurn (looker_machine c.looker) h.given (end_of 0 h.costs) t.condition (pull_finished q.reader.scanner) c.given_up.counts.items q.given_up.counts.items → q.last ≡ Some t.rule → HasCounted gave ends_of reads_of M N rules conditions s s'' q
  counted_one s'' q t beyond read finished machine holds looks counts turn rule = record {
    given = h.given;
    costs = h.costs ++ cost_by t beyond ∷ [];
    read = subst (λ ts. HasRead gave ends_of reads_of M s s'' h.given ts q.reader) (sym (tokens_more h.costs (cost_by t beyond))) read;
    machine = machine ∙ h.machine;
    holds = subst (λ n. Holds h.given n q.looker) (sym (end_more 0 h.costs (cost_by t beyond))) holds;
    looked = λ x k. costs_more (rules_of_machine N) x 0 h.costs (cost_by t beyond) (h.looked x (subst (λ (b : Bool). Consistent h.given b x) finished k))
        (subst (λ (K : Machine). IsCost (rules_of_machine K) x (end_of 0 h.costs) (cost_by t beyond)) h.machine (looks x k));
    counts = counts;
    given_up = h.given_up ++ turn.rules ∷ [];
    gave_up = λ x k. given_more (rules_of_machine N) x 0 h.costs (cost_by t beyond) h.given_up turn.rules (h.gave_up x (subst (λ (b : Bool). Consistent h.given b x) finished k))
        (subst (λ (K : Machine). GivesUp (rules_of_machine K) x (end_of 0 h.costs) t.condition turn.rules) h.machine (turn.gives_up x k));
    counts_given_up = turn.counted rules (concat h.given_up) h.counts_given_up ∙ ap (given_counts rules) (sym (concat_more h.given_up turn.rules));
    last = rule ∙ sym (ap last_rule (tokens_more h.costs (cost_by t beyond)) ∙ fold-append (λ (before : Option MatchedRule) (u : Token). Some u.rule) None (tokens_in h.costs) (whole_token t ∷ []));
  }
