-- What listing tokens and lines hands out, by what it answers.
use Rattle.std.proofs.Common.{ℕ, List, map}
use Rattle.lex_semantics.specs.Acting.{Status}
use Rattle.lexscan.specs.declared.token.Token.{Token}
use Rattle.lexscan.specs.Tokens.{Tokenised}
use Rattle.liblex_calls.specs.Buffers.{HandedOut, FitsInto}
use Rattle.liblex_calls.specs.Files.{ByFile}
use Rattle.liblex_calls.specs.Listing.{ListsInto, text_token}
use Rattle.liblex_calls.specs.declared.answer.Answer.{Answer}
use Rattle.liblex_calls.specs.declared.answer.Answer.TheVariants as answers
use Rattle.liblex_calls.specs.declared.listing.TextToken.{TextToken}

-- all tokens were handed out, as many as there is room for
pub listed_out : (file input : List ℕ) (old new : List TextToken) (count status : ℕ) (answer : Answer) (tokens : List Token) → ByFile file (λ R. Tokenised R input tokens (Status status)) → HandedOut (map text_token tokens) old new count → FitsInto (map text_token tokens) old answer → ListsInto file input old new count status answer
listed_out file input old new count status answers.Done tokens listed handed fits = record { tokens = tokens; listed = listed; handed = handed; fits = fits }
listed_out file input old new count status answers.TooSmall tokens listed handed fits = record { tokens = tokens; listed = listed; handed = handed; fits = fits }
listed_out file input old new count status answers.Ended tokens listed handed fits = absurd fits
listed_out file input old new count status answers.More tokens listed handed fits = absurd fits
listed_out file input old new count status answers.Closed tokens listed handed fits = absurd fits
listed_out file input old new count status answers.Refused tokens listed handed fits = absurd fits
listed_out file input old new count status answers.Stack tokens listed handed fits = absurd fits
listed_out file input old new count status answers.OutOfMemory tokens listed handed fits = absurd fits
listed_out file input old new count status answers.TooManyReads tokens listed handed fits = absurd fits
