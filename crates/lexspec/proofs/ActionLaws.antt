-- The text of an action, byte by byte.
use Rattle.std.proofs.Common.{◌≡◌, ℕ, zero, suc, ◌==◌, ◌&&◌, ◌||◌, if◌then◌else◌, List, [], ◌∷◌, ◌++◌, take, drop, Option, Some, None, refl, sym, ap, ◌∙◌}
use Rattle.std.proofs.lemmas.Bool.{ne_eqb}
use Rattle.lexspec.specs.ActionViews.{IsStep}
use Rattle.lexspec.specs.declared.action_text.ActionStep.{ActionStep}
use Rattle.lexspec.specs.declared.action_text.ActionStep.TheVariants.{Goes, Ends, Refused}
use Rattle.lexspec_actions.specs.ByteSteps.{slash, after_byte}
use Rattle.lexspec.specs.Items.{action_at}
use Rattle.lexspec.specs.ActionSteps.{ActionPlace, code, outside, action_in, with_byte, next_place, depth_after}

-- one step at each place
pub at_outside : (n c : ℕ) (t : List ℕ) → action_in outside n (c ∷ t) ≡ (if c == 10 && n == 0 then Some ([], t) else with_byte c (action_in (next_place c) (depth_after n c) t))
at_outside zero c t = refl
at_outside (suc n) c t = refl

pub at_slash : (n c : ℕ) (t : List ℕ) → action_in (code slash) n (c ∷ t) ≡ (if c == 42 || c == 47 then with_byte c (action_in (code (after_byte slash c)) n t)
    else if c == 10 && n == 0 then Some ([], t) else with_byte c (action_in (next_place c) (depth_after n c) t))
at_slash zero c t = refl
at_slash (suc n) c t = refl

-- the bytes stand before the action that is found
abbrev pub with_front : List ℕ → Option (List ℕ × List ℕ) → Option (List ℕ × List ℕ)
with_front front None = None
with_front front (Some found) = Some (front ++ found.0, found.1)

-- the text of which i bytes are read, where p is the place and n braces are open
abbrev pub Read : List ℕ → ℕ → ActionPlace → ℕ → Type 0
Read t i p n = with_front (take i t) (action_in p n (drop i t)) ≡ action_at t

-- after a slash that opens no comment
pub slash_like : (s : ActionStep) (n c : ℕ) (t : List ℕ) → (c ≡ 42 → ⊥) → (c ≡ 47 → ⊥) → IsStep s outside n c t → IsStep s (code slash) n c t
slash_like s n c t star_off slash_off h = from s h
  where
    same : action_in (code slash) n (c ∷ t) ≡ action_in outside n (c ∷ t)
    same = at_slash n c t
        ∙ ap (λ b. if b || c == 47 then with_byte c (action_in (code (after_byte slash c)) n t)
        else if c == 10 && n == 0 then Some ([], t) else with_byte c (action_in (next_place c) (depth_after n c) t)) (ne_eqb c 42 star_off)
        ∙ ap (λ b. if b then with_byte c (action_in (code (after_byte slash c)) n t) else if c == 10 && n == 0 then Some ([], t) else with_byte c (action_in (next_place c) (depth_after n c) t)) (ne_eqb c 47 slash_off)
        ∙ sym (at_outside n c t)

    from : (s : ActionStep) → IsStep s outside n c t → IsStep s (code slash) n c t
    from (Goes q) k = same ∙ k
    from Ends k = same ∙ k
    from Refused k = same ∙ k
