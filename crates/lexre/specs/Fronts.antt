-- The items that a sign opens, and what follows them.
use Rattle.std.specs.Prelude.{Bool, Some, codes}
use Rattle.lex_semantics.specs.ByteSets.{single}
use Rattle.lex_semantics.specs.Reading.{◌>>=◌, Reader, take_run, goes_on_name}
use Rattle.lex_semantics.specs.Tree.{Set}
use Rattle.lexre_bytes.specs.Lexical.{after_word, class_at, class_set, escape_at, folded, quoted_bytes, quoted_tree}
use Rattle.lexre_bytes.specs.Symbols.{Symbol, item, name, Lexer}

-- after an opening quote, an opening bracket and a backslash: the item, and what follows it
abbrev pub quoted_front : Bool → Lexer
quoted_front fold t = quoted_bytes t >>= λ (bs, rest). Some (item (quoted_tree fold bs), rest)

abbrev pub class_front : Bool → Lexer
class_front fold t = class_at t >>= λ (negated, es, rest). class_set fold negated es >>= λ s. Some (item (Set s), rest)

abbrev pub escape_front : Bool → Lexer
escape_front fold t = escape_at t >>= λ (b, rest). Some (item (Set (folded fold (single b))), rest)

-- at a letter or `_`: letters, digits, `_` and `-`, and `}`
unfoldable pub name_front : Reader Symbol
name_front t =
    let (letters, rest) = take_run goes_on_name t in
    after_word (codes "}") rest >>= λ after. Some (name letters, after)
