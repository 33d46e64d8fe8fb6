use Rattle.std.proofs.Common.{◌≡◌, ℕ, List, [], ◌++◌, append_assoc}
use Rattle.lexlook_unicode.proofs.definition.definition_of.Goals as goal

-- the parts of the line
put_together : (new a b c line name blank text slice end : List ℕ) → new ≡ [] → a ≡ new ++ name → b ≡ a ++ blank → c ≡ b ++ slice → slice ≡ text
    → line ≡ c ++ end → line ≡ name ++ (blank ++ (text ++ end))
put_together new a b c line name blank text slice end e f g h i k = rw (k, h, g, f, e, i) (simp append_assoc)

pub returns : goal.returns
returns c = (
  c.as_slice.result.now,
  c.in_ok-text.text.items,
  c.in_ok-text.ensures.spelled,
  put_together _ _ _ _ _ _ _ _ _ _ c.new-line.ensures.items c.in_ok-add_name.ensures c.in_ok-extend_from_slice.ensures.items
      c.in_ok-extend_from_slice-2.ensures.items c.as_slice-2.ensures.value c.in_ok-extend_from_slice-3.ensures.items,
)
