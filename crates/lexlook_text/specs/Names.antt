-- Which name is near another. (This project's.)
use Rattle.std.specs.Prelude.{ℕ, suc, ◌-◌, ◌&&◌, nat_lt, nat_le, Bool, if◌then◌else◌, List, [], ◌∷◌, length, drop, reverse, fold, Option, Some, None}
use Rattle.std.specs.Char.{eq_ignore_ascii_case}
use Rattle.lexspec_lines.specs.Lines.{words}

-- how many bytes both have alike in front, where letters stand for both cases
abbrev pub alike : List ℕ → List ℕ → ℕ
alike [] t = 0
alike (a ∷ s) [] = 0
alike (a ∷ s) (b ∷ t) = if eq_ignore_ascii_case a b then suc (alike s t) else 0

abbrev pub longer : List ℕ → List ℕ → ℕ
longer s t = if nat_lt (length s) (length t) then length t else length s

-- how many bytes of the longer one are alike neither in front nor, behind that, at the end
abbrev pub unlike : List ℕ → List ℕ → ℕ
unlike s t =
    let front = alike s t in longer s t - front - alike (reverse (drop front s)) (reverse (drop front t))

-- half of the longer one is alike at least
abbrev pub is_near : List ℕ → List ℕ → Bool
is_near s t = nat_le (unlike s t) (longer s t - unlike s t)

-- of the nearest so far and a name that which is nearer, and of two that are as near the earlier
abbrev pub nearer_name : List ℕ → Option (List ℕ) → List ℕ → Option (List ℕ)
nearer_name word None name = if is_near word name then Some name else None
nearer_name word (Some best) name =
    if is_near word name && nat_lt (unlike word name) (unlike word best) then Some name else Some best

-- of the words of a text the nearest to this one, if one is near
abbrev pub nearest : List ℕ → List ℕ → Option (List ℕ)
nearest word names = fold (nearer_name word) None (words names)
