-- How a stream of tokens stands that a program in C holds, and what its calls leave. (Own.)
use Rattle.std.specs.Prelude.{◌≡◌, ℕ, Bool, false, List, [], Some, None}
use Rattle.lextab_packed.specs.Table.{Table}
use Rattle.lextab_file.specs.File.{IsFileOf}
use Rattle.lexscan.specs.declared.token.Token.{Token}
use Rattle.liblex_calls.specs.Buffers.{HandedOut, FitsInto}
use Rattle.liblex_calls.specs.Handles.{stream_in}
use Rattle.liblex_calls.specs.Told.{Told, FeedTells, NextTells, TellsAgain}
use Rattle.liblex_calls.specs.declared.answer.Answer.{Answer}
use Rattle.liblex_calls.specs.declared.answer.Answer.TheVariants as answers
use Rattle.liblex_calls.specs.declared.stage.Stage.TheVariants as stages
use Rattle.liblex_calls.specs.declared.stream.TokenStream.{TokenStream}
use Rattle.liblex_calls.specs.declared.token_scan.TokenScan.{TokenScan}
use Rattle.liblex_calls.specs.declared.token_scan.NextToken.{NextToken}

-- the stream is open, by the rules of this file, and counts lines or not; it was fed these bytes, has told these
-- tokens, and shows this text
abbrev pub Streams : List ℕ → Bool → Bool → List ℕ → List Token → List ℕ → TokenStream → Type 0
Streams file lines told fed tokens text stream =
    (p : TokenScan) × (stream_in stream ≡ Some p) × Told file lines told fed tokens text p

-- the stream is open, and goes on
abbrev pub IsFlowing : TokenStream → Type 0
IsFlowing stream = (p : TokenScan) × (stream_in stream ≡ Some p) × (p.stage ≡ stages.Going)

-- What opening a stream leaves, by what it answers.
abbrev pub OpensStream : List ℕ → Bool → TokenStream → Answer → Type 0
OpensStream file lines stream answers.Done = Streams file lines false [] [] [] stream × IsFlowing stream
OpensStream file lines stream answers.Refused = ((t : Table) → IsFileOf t file → ⊥) × (stream_in stream ≡ None)
OpensStream file lines stream answers.OutOfMemory = stream_in stream ≡ None
OpensStream file lines stream other = ⊥

-- What feeding a piece leaves.
abbrev pub FeedsStream : List ℕ → Bool → Bool → List ℕ → List ℕ → List Token → List ℕ → TokenStream → Answer → Type 0
FeedsStream file lines told fed piece tokens text stream answer =
    (p : TokenScan) × (stream_in stream ≡ Some p) × FeedTells file lines told fed piece tokens text p answer

-- What asking for the next token leaves.
abbrev pub TellsNext : List ℕ → Bool → Bool → List ℕ → List Token → TokenStream → NextToken → NextToken → ℕ → Answer
    → Type 0
TellsNext file lines told fed tokens stream old new status answer =
    (p : TokenScan) × (stream_in stream ≡ Some p) × NextTells file lines told fed tokens p old new status answer

-- A stream that has ended or stopped stays as it is, and tells that again.
abbrev pub AnswersAgain : TokenStream → TokenStream → Answer → Type 0
AnswersAgain old new answer =
    (p : TokenScan) → stream_in old ≡ Some p → (q : TokenScan) × (stream_in new ≡ Some q) × TellsAgain p q answer

-- The end changes nothing of how far the scan has come.
abbrev pub ComesAsFar : TokenStream → TokenStream → Type 0
ComesAsFar old new =
    (p : TokenScan) → stream_in old ≡ Some p → (q : TokenScan) × (stream_in new ≡ Some q) × (q.stage ≡ p.stage)

-- The text that is shown was handed out, and the stream is as it was.
abbrev pub HandsText : List ℕ → TokenStream → TokenStream → List ℕ → List ℕ → ℕ → Answer → Type 0
HandsText text stream after old new count answer =
    (stream_in after ≡ stream_in stream) × HandedOut text old new count × FitsInto text old answer
