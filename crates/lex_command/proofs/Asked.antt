-- The program's command line: what its matches ask for, and what it refuses.
use Rattle.std.proofs.Common.{◌≡◌, ◌∙◌, ap, sym, subst, refl, inl, inr, true, List, [], Option, Some, None}
use Rattle.clap.specs.Words.{App, HasKind, HasMatchesOf, IsAmong, Row, Text, fault_of, is_simple, is_simple_and_free, kind_of, subcommand_of, subcommand_rows_of}
use Rattle.clap.specs.declared.error.Error.{Error}
use Rattle.clap.specs.declared.error.kind.ErrorKind.TheVariants as kind
use Rattle.clap.specs.declared.parser.matches.ArgMatches.{ArgMatches}
use Rattle.lex_command.specs.Refusal.{refusal_of}
use Rattle.lex_command.specs.declared.error.ArgsError.TheVariants.{Usage}
use Rattle.lex_command.specs.LookLine.{AsksToShow, IsLookOf, about_of, lexlook_app}
use Rattle.lex_command.specs.declared.look.args.Look.{Look}
use Rattle.lex_command.specs.declared.look.args.Look.TheVariants.{About as OfItself, Check, Letters, One, Same, Suite}
use Rattle.lex_command.specs.declared.look.args.About.{About}

lexlook_is_simple : is_simple lexlook_app ≡ true
lexlook_is_simple = refl

pub lexlook_is_free : is_simple_and_free lexlook_app ≡ true
lexlook_is_free = refl

clash : (a : Option About) (what : About) → a ≡ Some what → a ≡ None → ⊥
clash a what some none = absurd cc

-- no subcommand asks for something of the program itself
no_about_look : (r : Option (Text × List Row)) (what : About) → IsLookOf r (OfItself what) → ⊥
no_about_look None what h = h
no_about_look (Some p) what h = h

rows_are : (words : List Text) (a : App) (m : ArgMatches) → a ≡ lexlook_app → HasMatchesOf a words m → subcommand_rows_of m ≡ subcommand_of lexlook_app words
rows_are words a m is matches = (matches (ap is_simple is ∙ lexlook_is_simple)).1 ∙ ap (λ (b : App). subcommand_of b words) is

-- what the matches ask for is what the words ask for
pub asked_by : (words : List Text) (a : App) (m : ArgMatches) (look : Look) → a ≡ lexlook_app → about_of words ≡ None
    → HasMatchesOf a words m → fault_of a words ≡ [] → IsLookOf (subcommand_rows_of m) look → AsksToShow words look
asked_by words a m (OfItself what) is plain matches fault h = absurd (no_about_look (subcommand_rows_of m) what h)
asked_by words a m (One what file patterns) is plain matches fault h = (
  plain,
  ap (λ (b : App). fault_of b words) (sym is) ∙ fault,
  subst (λ (r : Option (Text × List Row)). IsLookOf r (One what file patterns)) (rows_are words a m is matches) h,
)
asked_by words a m (Same left right patterns) is plain matches fault h = (
  plain,
  ap (λ (b : App). fault_of b words) (sym is) ∙ fault,
  subst (λ (r : Option (Text × List Row)). IsLookOf r (Same left right patterns)) (rows_are words a m is matches) h,
)
asked_by words a m (Letters sets) is plain matches fault h = (
  plain,
  ap (λ (b : App). fault_of b words) (sym is) ∙ fault,
  subst (λ (r : Option (Text × List Row)). IsLookOf r (Letters sets)) (rows_are words a m is matches) h,
)
asked_by words a m (Check files strict json patterns) is plain matches fault h = (
  plain,
  ap (λ (b : App). fault_of b words) (sym is) ∙ fault,
  subst (λ (r : Option (Text × List Row)). IsLookOf r (Check files strict json patterns)) (rows_are words a m is matches) h,
)
asked_by words a m (Suite file folder patterns) is plain matches fault h = (
  plain,
  ap (λ (b : App). fault_of b words) (sym is) ∙ fault,
  subst (λ (r : Option (Text × List Row)). IsLookOf r (Suite file folder patterns)) (rows_are words a m is matches) h,
)

-- and what the words ask for is what the matches ask for
pub asks_by : (words : List Text) (a : App) (m : ArgMatches) (look : Look) → a ≡ lexlook_app → about_of words ≡ None
    → HasMatchesOf a words m → AsksToShow words look → IsLookOf (subcommand_rows_of m) look
asks_by words a m (OfItself what) is plain matches h = absurd (clash (about_of words) what h plain)
asks_by words a m (One what file patterns) is plain matches h =
    subst (λ (r : Option (Text × List Row)). IsLookOf r (One what file patterns)) (sym (rows_are words a m is matches)) h.2
asks_by words a m (Same left right patterns) is plain matches h =
    subst (λ (r : Option (Text × List Row)). IsLookOf r (Same left right patterns)) (sym (rows_are words a m is matches)) h.2
asks_by words a m (Letters sets) is plain matches h =
    subst (λ (r : Option (Text × List Row)). IsLookOf r (Letters sets)) (sym (rows_are words a m is matches)) h.2
asks_by words a m (Check files strict json patterns) is plain matches h =
    subst (λ (r : Option (Text × List Row)). IsLookOf r (Check files strict json patterns)) (sym (rows_are words a m is matches)) h.2
asks_by words a m (Suite file folder patterns) is plain matches h =
    subst (λ (r : Option (Text × List Row)). IsLookOf r (Suite file folder patterns)) (sym (rows_are words a m is matches)) h.2

none_fault : (words : List Text) (a : App) (look : Look) → a ≡ lexlook_app → about_of words ≡ None → AsksToShow words look → fault_of a words ≡ []
none_fault words a (OfItself what) is plain h = absurd (clash (about_of words) what h plain)
none_fault words a (One what file patterns) is plain h = ap (λ (b : App). fault_of b words) is ∙ h.1
none_fault words a (Same left right patterns) is plain h = ap (λ (b : App). fault_of b words) is ∙ h.1
none_fault words a (Letters sets) is plain h = ap (λ (b : App). fault_of b words) is ∙ h.1
none_fault words a (Check files strict json patterns) is plain h = ap (λ (b : App). fault_of b words) is ∙ h.1
none_fault words a (Suite file folder patterns) is plain h = ap (λ (b : App). fault_of b words) is ∙ h.1

-- words that are refused as no line of the program's ask for nothing
pub asks_for_none : (words : List Text) (a : App) (e : Error) (look : Look) → a ≡ lexlook_app → about_of words ≡ None → HasKind (fault_of a words) e
    → refusal_of (kind_of e) ≡ Usage → AsksToShow words look → ⊥
asks_for_none words a e look is plain (inl memory) usage h =
    let bad : refusal_of kind.OutOfMemory ≡ Usage = ap refusal_of (sym memory) ∙ usage in
    cc
asks_for_none words a e look is plain (inr among) usage h =
    subst (IsAmong (kind_of e)) (none_fault words a look is plain h) among
