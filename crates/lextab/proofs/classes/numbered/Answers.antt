use Rattle.std.proofs.Common.{rules, ◌≡◌, ◌++◌, ◌∷◌, [], ℕ, List, ◌+◌, ◌<◌, length, slice_index, ap, ◌∙◌, arith, Vec, Global}
use Rattle.std.proofs.lemmas.Grind.{get_or_default_zero}
use Rattle.lextab.specs.Searching.{AreNumbered}
use Rattle.lextab.proofs.Leads.{joins, begins}
use Rattle.lextab.proofs.classes.numbered.Goals.{then-first-byte+in_ok-push, else-first-byte+in_ok-push-2+in_ok-push-3}
use Rattle.lextab.proofs.classes.numbered.Goals as goal

same_lists : (leads cs ds hs is : List ℕ) (i : ℕ) → ds ≡ cs → is ≡ hs → AreNumbered leads cs hs i → AreNumbered leads ds is i
same_lists leads cs ds hs is i e f x = rw (e, f) x

pub loop-byte-preserved : goal.loop-byte-preserved
loop-byte-preserved c =
    let leads = c.args.lead.now in
    let i = c.loop-byte.byte in
    let cs = c.loop-byte.class_of.items in
    let hs = c.loop-byte.heads.items in
    let items = λ (v : Vec ℕ Global). v.items in
    let within : i < 256 = search rules in
    elim c.if-first-byte.branch [
      | then-first-byte+in_ok-push w ↦ (
          let low : slice_index leads i < length cs = (let n = c.loop-byte.invariant.len in let f = w.if-first-byte.true in omega arith) in
          let is : w.index-class.result.now ≡ slice_index cs (slice_index leads i) = w.index-class.ensures ∙ get_or_default_zero cs (slice_index leads i) w.index-class.result.now low in
          let e : c.if-first-byte.class_of.items ≡ cs ++ slice_index cs (slice_index leads i) ∷ [] = ap items w.class_of-is ∙ w.in_ok-push.ensures.items ∙ ap (λ (n : ℕ). cs ++ n ∷ []) is in
          same_lists leads (cs ++ slice_index cs (slice_index leads i) ∷ []) c.if-first-byte.class_of.items hs c.if-first-byte.heads.items (i + 1) e (ap items w.heads-is)
          (joins leads cs hs i c.loop-byte.invariant c.requires.heads within w.if-first-byte.true))
      | else-first-byte+in_ok-push-2+in_ok-push-3 w ↦ (
          let self : slice_index leads i ≡ i = (let l = (c.requires.heads i within).0 in let n = w.if-first-byte.false in omega arith) in
          let e : c.if-first-byte.class_of.items ≡ cs ++ length hs ∷ [] = ap items w.class_of-is ∙ w.in_ok-push-2.ensures.items ∙ ap (λ (n : ℕ). cs ++ n ∷ []) (search rules) in
          let f : c.if-first-byte.heads.items ≡ hs ++ i ∷ [] = ap items w.heads-is ∙ w.in_ok-push-3.ensures.items ∙ ap (λ (n : ℕ). hs ++ n ∷ []) (search rules) in
          same_lists leads (cs ++ length hs ∷ []) c.if-first-byte.class_of.items (hs ++ i ∷ []) c.if-first-byte.heads.items (i + 1) e f
          (begins leads cs hs i c.loop-byte.invariant c.requires.heads within self))
    ]
