use Rattle.std.proofs.Common.{ℕ, ◌++◌, ◌∷◌, [], ◌≡◌, ◌<◌, ◌∙◌, Some, length, set, ap, sym, arith}
use Rattle.lexauto_dfa.specs.Parts.{next}
use Rattle.lexlook_suites.specs.Trees.{state_at}
use Rattle.lexlook_suites.specs.declared.trees.Step.{Step}
use Rattle.lexlook_suites.proofs.Ordered.{byte_low}
use Rattle.lexlook_suites.proofs.Treed.{came, fewer_more, none_at, past_found, past_more, some_at, tree_more}
use Rattle.lexlook_suites.proofs.trees.Tree.add.Goals as goal

abbrev step : ℕ → ℕ → ℕ → Step
step s k b = record { state = s; from = k; byte = b }

pub returns-then-is_some-clause-past : goal.returns-then-is_some-clause-past
returns-then-is_some-clause-past c =
    let p = c.args.dfa.now.parts in
    let steps = c.args.self.now.steps.items in
    let places = c.args.self.now.places.items in
    let k = c.args.place in
    let s = c.next-state.result in
    let all = c.requires.tree.all in
    let known = c.next-state.ensures.known in
    let room : s < length places = omega (arith, known, all) in
    let some = some_at places s c.index-2.result.now room c.index-2.ensures (sym c.is_some.ensures ∙ c.if-is_some.true) in
    past_found p c.args.self.now.start steps places k c.requires.tree c.requires.place c.args.rank s some.0 c.requires.past
    (came p steps k c.byte_at-byte.result s c.index.result.now c.requires.place c.index.ensures c.next-state.ensures.state ∙ ap (next p (state_at steps k)) c.byte_at-byte.ensures) some.1

pub returns-clause-tree : goal.returns-clause-tree
returns-clause-tree c =
    let p = c.args.dfa.now.parts in
    let steps = c.args.self.now.steps.items in
    let places = c.args.self.now.places.items in
    let k = c.args.place in
    let s = c.next-state.result in
    let all = c.requires.tree.all in
    let known = c.next-state.ensures.known in
    let room : s < length places = omega (arith, known, all) in
    let small = byte_low c.args.rank c.requires.rank in
    let pushed = c.in_ok-push.ensures.items ∙ ap (λ (b : ℕ). steps ++ step s k b ∷ []) c.byte_at-byte.ensures in
    let count : c.len.result ≡ length steps = omega (arith, c.len.ensures, c.args.self.now.steps.ok.0) in
    tree_more p c.args.self.now.start steps places k c.requires.tree c.requires.place c.args.rank s c.push.new.self.items (set places s (Some c.len.result))
    (came p steps k c.byte_at-byte.result s c.index.result.now c.requires.place c.index.ensures c.next-state.ensures.state ∙ ap (next p (state_at steps k)) c.byte_at-byte.ensures) small known c.if-state-eq0.false
    (none_at places s c.index-2.result.now room c.index-2.ensures (sym c.is_some.ensures ∙ c.if-is_some.false)) (ap (λ n. set places s (Some n)) count) pushed

pub returns-clause-past : goal.returns-clause-past
returns-clause-past c =
    let p = c.args.dfa.now.parts in
    let steps = c.args.self.now.steps.items in
    let places = c.args.self.now.places.items in
    let k = c.args.place in
    let s = c.next-state.result in
    let all = c.requires.tree.all in
    let known = c.next-state.ensures.known in
    let room : s < length places = omega (arith, known, all) in
    let small = byte_low c.args.rank c.requires.rank in
    let pushed = c.in_ok-push.ensures.items ∙ ap (λ (b : ℕ). steps ++ step s k b ∷ []) c.byte_at-byte.ensures in
    let count : c.len.result ≡ length steps = omega (arith, c.len.ensures, c.args.self.now.steps.ok.0) in
    past_more p c.args.self.now.start steps places k c.requires.tree c.requires.place c.args.rank s c.push.new.self.items (set places s (Some c.len.result))
    (came p steps k c.byte_at-byte.result s c.index.result.now c.requires.place c.index.ensures c.next-state.ensures.state ∙ ap (next p (state_at steps k)) c.byte_at-byte.ensures) small known c.if-state-eq0.false
    (none_at places s c.index-2.result.now room c.index-2.ensures (sym c.is_some.ensures ∙ c.if-is_some.false)) (ap (λ n. set places s (Some n)) count) pushed
    c.requires.past

pub returns-clause-fewer : goal.returns-clause-fewer
returns-clause-fewer c =
    let places = c.args.self.now.places.items in
    let s = c.next-state.result in
    let all = c.requires.tree.all in
    let known = c.next-state.ensures.known in
    let room : s < length places = omega (arith, known, all) in
    fewer_more c.args.self.now.steps.items c.push.new.self.items _ places s c.len.result c.in_ok-push.ensures.items room
    (none_at places s c.index-2.result.now room c.index-2.ensures (sym c.is_some.ensures ∙ c.if-is_some.false))
