use Rattle.std.proofs.Common.{rules, ◌≡◌, ℕ, ◌++◌, ◌∷◌, [], List, length, sym, subst, ap, ◌∙◌}
use Rattle.lexauto.specs.Moving.{AreKinds}
use Rattle.lexauto.specs.declared.kinds.Kind.{Kind}
use Rattle.lexauto.proofs.ByteKinds.{one_more_kind}
use Rattle.lexauto.proofs.kinds.Kinds.add.Goals as goal

pub returns-clause-are : goal.returns-clause-are
returns-clause-are c = λ reads are marks.
    let kinds = c.args.self.now.kinds.items in
    let places = c.args.self.now.places.items in
    let new : Kind = record { first = c.len-byte.result; marks = c.args.marks; digest = c.digest_of-digest.result } in
    let count : c.len.result ≡ length kinds = search rules in
    let first : c.len-byte.result ≡ length places = search rules in
    let more_places : c.push-2.new.self.items ≡ places ++ length kinds ∷ [] = c.in_ok-push-2.ensures.items ∙ ap (λ (n : ℕ). places ++ n ∷ []) count in
    let more_kinds : c.push-3.new.self.items ≡ kinds ++ new ∷ [] = c.in_ok-push-3.ensures.items in
    subst (λ (ks : List Kind). AreKinds reads ks c.push-2.new.self.items) (sym more_kinds)
    (subst (λ (ps : List ℕ). AreKinds reads (kinds ++ new ∷ []) ps) (sym more_places) (one_more_kind reads kinds places are new first marks))
