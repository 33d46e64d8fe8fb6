use Rattle.std.proofs.Common.{◌≡◌, ◌<◌, ℕ, zero, suc, List, [], ◌∷◌, length, map, get_or, ap, sym, subst, ◌∙◌, arith, Vec, Global}
use Rattle.std.specs.declared.rc.Rc.{Rc}
use Rattle.lex_semantics.specs.Text.{Ascending}
use Rattle.lexauto_dfa.specs.Automata.{accepts_of}
use Rattle.lexauto_dfa.proofs.dfa.Dfa.accepts.Goals as goal

list_at : (vs : List (Rc (Vec ℕ Global) Global)) (i : ℕ) (v : Rc (Vec ℕ Global) Global) → i < length vs → v ≡ get_or vs i v → v.value.items ≡ get_or (map (λ v. v.value.items) vs) i []
list_at [] i v h e = absurd (omega (arith, h))
list_at (w ∷ vs) zero v h e = ap (λ (u : Rc (Vec ℕ Global) Global). u.value.items) e
list_at (w ∷ vs) (suc i) v h e = list_at vs i v (omega (arith, h)) e

pub returns-clause-ascending : goal.returns-clause-ascending
returns-clause-ascending c =
    let d = c.args.self.now in
    let lists = d.lawful.lists in
    let low : c.args.state < length d.parts.accepts.items = let r = c.requires in omega (arith, lists, r) in
    let same : c.deref-2.result.now ≡ accepts_of d c.args.state =
    c.deref-2.ensures.value ∙ ap (λ (u : Vec ℕ Global). u.items) c.deref.ensures ∙ list_at d.parts.accepts.items c.args.state c.index.result.now low c.index.ensures in
    subst Ascending (sym same) (d.lawful.ascending c.args.state c.requires)
