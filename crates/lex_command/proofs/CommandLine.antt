-- The program's command line: what it is made of, what its matches ask for, and what it refuses.
use Rattle.std.proofs.Common.{◌≡◌, ◌∙◌, ◌+◌, ◌<◌, ◌≤◌, ◌&&◌, ◌==◌, ap, ap₂, sym, subst, refl, inl, inr, ℕ, Bool, true, false, List, [], ◌∷◌, Some, None, fold, get_or, length, map, take}
use Rattle.std.proofs.lemmas.List.{map_more, take_all}
use Rattle.std.proofs.lemmas.List.Sums.{fold-append}
use Rattle.std.specs.Prelude.{IfErr, IsErrAnd, Result, Ok, Err}
use Rattle.std.specs.List.{position}
use Rattle.clap.specs.Words.{AddsArg, App, HasKind, HasMatchesOf, IsAmong, Row, Rule, Text, app_of, fault_of, found_of, is_simple_and_free, kind_of, matches_of, rows_of, rule_of, with_rule}
use Rattle.clap.specs.Simple.{is_simple}
use Rattle.clap.specs.declared.builder.arg.Arg.{Arg}
use Rattle.clap.specs.declared.builder.command.Command.{Command}
use Rattle.clap.specs.declared.error.Error.{Error}
use Rattle.clap.specs.declared.error.kind.ErrorKind.TheVariants as kind
use Rattle.clap.specs.declared.parser.matches.ArgMatches.{ArgMatches}
use Rattle.lex_command.specs.CommandLine.{AsksFor, IsJobOf, has_byte_at, has_separator, has_value_behind_equals, is_out_with_equals, lex_app}
use Rattle.lex_command.specs.Refusal.{refusal_of}
use Rattle.lex_command.specs.declared.error.ArgsError.TheVariants.{Usage}
use Rattle.lex_command.specs.declared.job.args.Job.{Job}

-- a command with one more argument has one more rule
pub adds_rule : (old new : Command) (a : Arg) (s : App) (r : Rule) → AddsArg old a new → a.global ≡ false → app_of old ≡ s → rule_of a ≡ r
    → app_of new ≡ with_rule s r
adds_rule old new a s r added global is rule = added.shape global ∙ ap₂ with_rule is rule

-- one row more of a table, each of which adds something
pub fold_row : {R A B : Type 0} (f : B → A → B) (row : R → A) (rows : List R) (d : R) (old new s : B) (i : ℕ) → i < length rows
    → old ≡ fold f s (map row (take i rows)) → new ≡ f old (row (get_or rows i d)) → new ≡ fold f s (map row (take (i + 1) rows))
fold_row f row rows d old new s i within is more =
    more
    ∙ ap (λ b. f b (row (get_or rows i d))) is
    ∙ sym (ap (fold f s) (map_more row rows i d within) ∙ fold-append f s (map row (take i rows)) (row (get_or rows i d) ∷ []))

-- the same for a command with one more argument
pub adds_row : {R : Type 0} (row : R → Rule) (rows : List R) (d : R) (old new : Command) (a : Arg) (s : App) (i : ℕ) → i < length rows
    → AddsArg old a new → a.global ≡ false → app_of old ≡ fold with_rule s (map row (take i rows)) → rule_of a ≡ row (get_or rows i d)
    → app_of new ≡ fold with_rule s (map row (take (i + 1) rows))
adds_row row rows d old new a s i within added global is rule =
    fold_row with_rule row rows d (app_of old) (app_of new) s i within is (adds_rule old new a _ _ added global refl rule)

-- and where the first rows are all of them
pub all_rows : {R : Type 0} (row : R → Rule) (rows : List R) (a s : App) (i : ℕ) → length rows ≤ i → a ≡ fold with_rule s (map row (take i rows))
    → a ≡ fold with_rule s (map row rows)
all_rows {R} row rows a s i all is = is ∙ ap (λ (l : List R). fold with_rule s (map row l)) (take_all i rows all)

pub lex_is_simple : is_simple lex_app ≡ true
lex_is_simple = refl

pub lex_is_free : is_simple_and_free lex_app ≡ true
lex_is_free = refl

-- a word with no `o`
pub no_out : (word : Text) → position (λ b. b == 111) word ≡ None → false ≡ is_out_with_equals word
no_out word e = rw e (go (has_byte_at word 0 45))
  where
    go : (b : Bool) → false ≡ (b && false)
    go true = refl
    go false = refl

-- a word of flags with an `o`
pub out_at : (word : Text) (at : ℕ) → has_byte_at word 0 45 ≡ true → position (λ b. b == 111) word ≡ Some at
    → has_byte_at word (at + 1) 61 ≡ is_out_with_equals word
out_at word at dash e = rw (dash, e) refl

-- the job of the matches is what the words ask for
pub asked_by : (words : List Text) (a : App) (m : ArgMatches) (separated : Bool) (job : Job) → a ≡ lex_app → has_value_behind_equals words ≡ false
    → HasMatchesOf a words m → fault_of a words ≡ [] → separated ≡ has_separator words → IsJobOf (rows_of (found_of m)) separated job
    → AsksFor words job
asked_by words a m separated job is plain matches fault sep h =
    let rows : rows_of (found_of m) ≡ matches_of lex_app words = (matches (ap is_simple is ∙ lex_is_simple)).0 ∙ ap (λ (b : App). matches_of b words) is in (
      plain,
      ap (λ (b : App). fault_of b words) (sym is) ∙ fault,
      subst (λ (t : Bool). IsJobOf (matches_of lex_app words) t job) sep
          (subst (λ (met : List Row). IsJobOf met separated job) rows h),
    )

-- and what the words ask for is the job of the matches
pub asks_by : (words : List Text) (a : App) (m : ArgMatches) (separated : Bool) (job : Job) → a ≡ lex_app
    → HasMatchesOf a words m → separated ≡ has_separator words → AsksFor words job → IsJobOf (rows_of (found_of m)) separated job
asks_by words a m separated job is matches sep h =
    let rows : rows_of (found_of m) ≡ matches_of lex_app words = (matches (ap is_simple is ∙ lex_is_simple)).0 ∙ ap (λ (b : App). matches_of b words) is in
    subst (λ (met : List Row). IsJobOf met separated job) (sym rows)
    (subst (λ (t : Bool). IsJobOf (matches_of lex_app words) t job) (sym sep) h.2)

-- words that are refused as no line of the program's ask for nothing
pub asks_for_none : (words : List Text) (a : App) (e : Error) (job : Job) → a ≡ lex_app → HasKind (fault_of a words) e
    → refusal_of (kind_of e) ≡ Usage → AsksFor words job → ⊥
asks_for_none words a e job is (inl memory) usage h =
    let bad : refusal_of kind.OutOfMemory ≡ Usage = ap refusal_of (sym memory) ∙ usage in
    cc
asks_for_none words a e job is (inr among) usage h =
    let none : fault_of a words ≡ [] = ap (λ (b : App). fault_of b words) is ∙ h.1 in
    subst (IsAmong (kind_of e)) none among

-- what is said of an error
pub err_told : {T E : Type 0} (r : Result T E) (P Q : E → Type 0) → ((e : E) → P e → Q e) → IsErrAnd r P → IfErr r Q
err_told (Ok x) P Q f h = tt
err_told (Err e) P Q f h = f e h
