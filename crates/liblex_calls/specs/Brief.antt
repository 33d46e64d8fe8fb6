-- Tokens that follow on each other, of which few bytes are kept. (Own.)
use Rattle.std.specs.Prelude.{ℕ, List, map}
use Rattle.lexscan.specs.Series.{token_from, drawn_out}
use Rattle.lexscan.specs.declared.series.BriefToken.{BriefToken}
use Rattle.liblex_calls.specs.Listing.{text_token}
use Rattle.liblex_calls.specs.declared.listing.TextToken.{TextToken}

-- the token that begins there
abbrev pub long_token : ℕ → BriefToken → TextToken
long_token start t = text_token (token_from start t)

-- these tokens, of which the first begins there and each other where the one before it ends
abbrev pub long_tokens : ℕ → List BriefToken → List TextToken
long_tokens start ts = map text_token (drawn_out start ts)
