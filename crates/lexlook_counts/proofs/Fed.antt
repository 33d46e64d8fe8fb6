-- What is read of a source, step by step.
use Rattle.std.proofs.Common.{◌≡◌, ℕ, ◌+◌, ◌-◌, ◌^◌, ◌<◌, inl, inr, ◌⊎◌, Bool, true, false, List, [], ◌++◌, append-nil, Result, Err, refl, sym, ap, subst, ◌∙◌, arith}
use Rattle.std.proofs.lemmas.List.{append_assoc}
use Rattle.lex_semantics.specs.ByteSets.{bit_of}
use Rattle.lex_semantics.specs.Demand.{Consistent}
use Rattle.lex_semantics.specs.Machine.{Machine, rules_of_machine}
use Rattle.lex_semantics.specs.Rules.{Rules}
use Rattle.lexscan.specs.Pulls.{AfterPull, TokensTold, StoppedSo}
use Rattle.lexscan.specs.Scanners.{pull_finished, pull_state, pull_waiting}
use Rattle.lexscan.specs.declared.pull.Pulled.{Pulled}
use Rattle.lexscan.specs.declared.token.Token.{Token}
use Rattle.lexscan_window.specs.Reads.{read_fault_count}
use Rattle.lexscan_window.specs.declared.error.RunError.{RunError}
use Rattle.lexscan_window.specs.declared.error.RunError.TheVariants as runs
use Rattle.lexscan_window.specs.declared.state.State.{State}
use Rattle.lexlook_counts.specs.Reading.{AreFirst, HasRead, HasTold, IsNew, StopsBehind, StopsBy, reader_machine}
use Rattle.lexlook_counts.specs.declared.reading.TokenReader.{TokenReader}

-- what a call tells, of a machine that is known
pub pulled_by : (N M : Machine) (fed : List ℕ) (finished : Bool) (tokens : List Token) (s t : State) (waiting left text : List ℕ) (u v : Result Pulled RunError) → N ≡ M → u ≡ v → (TokensTold N fed finished tokens s waiting → AfterPull N fed finished tokens t left text u)
    → TokensTold M fed finished tokens s waiting → AfterPull M fed finished tokens t left text v
pulled_by N M fed finished tokens s t waiting left text u v is same f =
    subst (λ (w : Result Pulled RunError). TokensTold M fed finished tokens s waiting → AfterPull M fed finished tokens t left text w) same
    (subst (λ (K : Machine). TokensTold K fed finished tokens s waiting → AfterPull K fed finished tokens t left text u) is f)

pub reads_alike : (T U : Type 0) (e : RunError) → read_fault_count {T = T} (Err e) ≡ read_fault_count {T = U} (Err e)
reads_alike T U runs.Read = refl
reads_alike T U runs.TooManyReads = refl
reads_alike T U runs.Write = refl
reads_alike T U runs.OutOfMemory = refl
reads_alike T U runs.Stack = refl
reads_alike T U runs.Failed = refl

-- a fault of feeding is none of the stack, and none of a sink
abbrev pub IsFeedFault : RunError → Type 0
IsFeedFault e = (e ≡ runs.Read) ⊎ (e ≡ runs.OutOfMemory) ⊎ (e ≡ runs.TooManyReads)

not_stack : (e : RunError) → IsFeedFault e → e ≡ runs.Stack → ⊥
not_stack e (inl a) b = let no : runs.Read ≡ runs.Stack = sym a ∙ b in cc
not_stack e (inr (inl a)) b = let no : runs.OutOfMemory ≡ runs.Stack = sym a ∙ b in cc
not_stack e (inr (inr a)) b = let no : runs.TooManyReads ≡ runs.Stack = sym a ∙ b in cc

not_write : (e : RunError) → IsFeedFault e → e ≡ runs.Write → ⊥
not_write e (inl a) b = let no : runs.Read ≡ runs.Write = sym a ∙ b in cc
not_write e (inr (inl a)) b = let no : runs.OutOfMemory ≡ runs.Write = sym a ∙ b in cc
not_write e (inr (inr a)) b = let no : runs.TooManyReads ≡ runs.Write = sym a ∙ b in cc

no_bit : (n m : ℕ) (b : Bool) → b ≡ false → n ≡ m + bit_of b → n ≡ m
no_bit n m b is e = let none : n ≡ m + 0 = e ∙ ap (λ (d : Bool). m + bit_of d) is in omega (arith, none)

-- what more of the input leaves open, less of it does
pub goes_on_so : (given more : List ℕ) (at_end : Bool) (x : List ℕ) → Consistent (given ++ more) at_end x → Consistent given false x
goes_on_so given more true x (text, is) = (text, (more, is))
goes_on_so given more false x (text, (rest, is)) = (text, (more ++ rest, is ∙ append_assoc given more rest))

-- the tokens of the first turns stay so, as more is given
first_still : (R : Rules) (given more : List ℕ) (at_end : Bool) (tokens : List Token) → AreFirst R given false tokens → AreFirst R (given ++ more) at_end tokens
first_still R given more at_end tokens (turns, all) = (turns, λ x c. all x (goes_on_so given more at_end x c))

module _ {A : Type 0} (gave : A → List ℕ → A → Type 0) (ends_of reads_of : A → ℕ) (M : Machine) (s : A) where
  -- nothing was fed
  pub fresh : (r : TokenReader) → gave s [] s → IsNew M r → HasRead gave ends_of reads_of M s s [] [] r
  fresh r none f = record {
    machine = f.machine;
    source = none;
    ends = (let zero : ends_of s ≡ ends_of s + 0 = omega arith in zero ∙ ap (λ (b : Bool). ends_of s + bit_of b) (sym f.unfinished));
    reads = refl;
    told = subst (λ (b : Bool). TokensTold M [] b [] (pull_state r.scanner) (pull_waiting r.scanner)) (sym f.unfinished) f.told;
  }

  module _ (s' : A) (given : List ℕ) (tokens : List Token) (r : TokenReader) (h : HasRead gave ends_of reads_of M s s' given tokens r) where
    pub has_told : HasTold r
    has_told = (given, tokens, subst (λ (K : Machine). TokensTold K given (pull_finished r.scanner) tokens (pull_state r.scanner) (pull_waiting r.scanner)) (sym h.machine) h.told)

    pub few_ends : ends_of s < 2 ^ 64 - 1 → pull_finished r.scanner ≡ false → ends_of s' < 2 ^ 64 - 1
    few_ends few open_end = let same = no_bit (ends_of s') (ends_of s) (pull_finished r.scanner) open_end h.ends in omega (arith, same, few)

    -- some tokens more were told
    pub still : (q : TokenReader) (more : List Token) → reader_machine q ≡ reader_machine r → pull_finished q.scanner ≡ pull_finished r.scanner
        → TokensTold M given (pull_finished r.scanner) more (pull_state q.scanner) (pull_waiting q.scanner) → HasRead gave ends_of reads_of M s s' given more q
    still q more machine finished told = record {
      machine = machine ∙ h.machine;
      source = h.source;
      ends = h.ends ∙ ap (λ (b : Bool). ends_of s + bit_of b) (sym finished);
      reads = h.reads;
      told = subst (λ (b : Bool). TokensTold M given b more (pull_state q.scanner) (pull_waiting q.scanner)) (sym finished) told;
    }

    -- these are the tokens of the first turns
    pub read_first : AreFirst (rules_of_machine M) given (pull_finished r.scanner) tokens
    read_first = (h.told.turns, h.told.tokens_are)

    -- memory ran out
    pub by_memory : StopsBy gave ends_of reads_of M s s' given (pull_finished r.scanner) runs.OutOfMemory
    by_memory = record {
      source = h.source;
      ends = h.ends;
      reads = (let zero : reads_of s' ≡ reads_of s + 0 = omega (arith, h.reads) in zero);
      stack = λ e. cc;
      not_write = λ e. cc;
    }

    -- the stack is at fault
    pub by_stack : StoppedSo (rules_of_machine M) given (pull_finished r.scanner) tokens runs.Stack → StopsBy gave ends_of reads_of M s s' given (pull_finished r.scanner) runs.Stack
    by_stack stopped = record {
      source = h.source;
      ends = h.ends;
      reads = (let zero : reads_of s' ≡ reads_of s + 0 = omega (arith, h.reads) in zero);
      stack = λ e. record { given = given; at_end = pull_finished r.scanner; tokens = tokens; source = h.source; ends = h.ends; stopped = stopped };
      not_write = λ e. cc;
    }

    -- nothing more was fed
    pub stopped_here : (e : RunError) → StopsBy gave ends_of reads_of M s s' given (pull_finished r.scanner) e → StopsBehind gave ends_of reads_of M s s' given tokens e
    stopped_here e stops = record {
      more = [];
      at_end = pull_finished r.scanner;
      first = subst (λ (l : List ℕ). AreFirst (rules_of_machine M) l (pull_finished r.scanner) tokens) (sym (append-nil given)) read_first;
      stops = subst (λ (l : List ℕ). StopsBy gave ends_of reads_of M s s' l (pull_finished r.scanner) e) (sym (append-nil given)) stops;
    }

    -- feeding is refused
    pub by_feeding : (s'' : A) (more : List ℕ) (at_end : Bool) (e : RunError) → pull_finished r.scanner ≡ false → gave s (given ++ more) s'' → ends_of s'' ≡ ends_of s' + bit_of at_end → reads_of s'' ≡ reads_of s' + read_fault_count {T = Unit {0}} (Err e)
        → IsFeedFault e → StopsBehind gave ends_of reads_of M s s'' given tokens e
    by_feeding s'' more at_end e open_end source ends reads fault = record {
      more = more;
      at_end = at_end;
      first = first_still (rules_of_machine M) given more at_end tokens (subst (λ (b : Bool). AreFirst (rules_of_machine M) given b tokens) open_end read_first);
      stops = record {
        source = source;
        ends = (let same = no_bit (ends_of s') (ends_of s) (pull_finished r.scanner) open_end h.ends in ends ∙ ap (λ (n : ℕ). n + bit_of at_end) same);
        reads = (let same = reads_alike (Unit {0}) ℕ e in omega (arith, reads, h.reads, same));
        stack = λ is. absurd (not_stack e fault is);
        not_write = not_write e fault;
      };
    }

    -- more was fed
    pub fed_more : (s'' : A) (more : List ℕ) (q : TokenReader) → pull_finished r.scanner ≡ false → reader_machine q ≡ reader_machine r → gave s (given ++ more) s'' → ends_of s'' ≡ ends_of s' + bit_of (pull_finished q.scanner) → reads_of s'' ≡ reads_of s' + 0
        → TokensTold M (given ++ more) (pull_finished q.scanner) tokens (pull_state q.scanner) (pull_waiting q.scanner) → HasRead gave ends_of reads_of M s s'' (given ++ more) tokens q
    fed_more s'' more q open_end machine source ends reads told = record {
      machine = machine ∙ h.machine;
      source = source;
      ends = (let same = no_bit (ends_of s') (ends_of s) (pull_finished r.scanner) open_end h.ends in ends ∙ ap (λ (n : ℕ). n + bit_of (pull_finished q.scanner)) same);
      reads = omega (arith, reads, h.reads);
      told = told;
    }
