use Rattle.std.proofs.Common.{◌≡◌, ℕ, ap, sym, ◌∙◌, Err, not}
use Rattle.std.proofs.lemmas.Result.{err_from_is_err_and}
use Rattle.lexspec.specs.Views.{spec_of, rules_in}
use Rattle.lex_semantics.specs.Reading.{is_empty}
use Rattle.lexauto.specs.Moving.{followers_in}
use Rattle.lexspec.proofs.TestLaws.{spec_is_sound}
use Rattle.lexauto.specs.declared.explore.ExploreError.TheVariants.{TooMany}
use Rattle.lexauto.specs.KeyPacking.{look_kept, kept_in}
use Rattle.lexauto.proofs.Kept.{kept_length}
use Rattle.lexauto.proofs.Places.{keys_length}
use Rattle.lexauto.proofs.Surveying.{more_roots_than, more_keys_than, surveyed}
use Rattle.lexauto.proofs.subsets.explore_spec.Goals as goal

pub returns-in_err-starts-clause-too_many : goal.returns-in_err-starts-clause-too_many
returns-in_err-starts-clause-too_many c = λ e n s.
    let p = err_from_is_err_and c.from_residual-in_err-starts.result c.from_residual-in_err-starts.ensures.1 in
    let told = rw (p.1, p.2) at e in
    let same : c.in_err-starts.field-0.0 ≡ TooMany = cc in
    more_roots_than (spec_of c.args.moves.now.spec.now) c.args.limit n (c.in_err-starts.ensures.too_many (ap Err same)) s

pub returns-in_err-line_starts-clause-too_many : goal.returns-in_err-line_starts-clause-too_many
returns-in_err-line_starts-clause-too_many c = λ e n s.
    let p = err_from_is_err_and c.from_residual-in_err-line_starts.result c.from_residual-in_err-line_starts.ensures.1 in
    let told = rw (p.1, p.2) at e in
    let same : c.in_err-line_starts.field-0.0 ≡ TooMany = cc in
    more_roots_than (spec_of c.args.moves.now.spec.now) c.args.limit n (c.in_err-line_starts.ensures.too_many (ap Err same)) s

pub returns-in_err-explored-clause-too_many : goal.returns-in_err-explored-clause-too_many
returns-in_err-explored-clause-too_many c = λ e n s.
    let S = spec_of c.args.moves.now.spec.now in
    let p = err_from_is_err_and c.from_residual-in_err-explored.result c.from_residual-in_err-explored.ensures.1 in
    let told = rw (p.1, p.2) at e in
    let same : c.in_err-explored.field-0.0 ≡ TooMany = cc in
    more_keys_than S c.args.limit n (spec_is_sound S c.args.moves.now.spec.now.sound) c.args.moves.now.count c.args.moves.now.within
    (kept_in c.add_starts-2.new.table.keys.items) c.in_ok-line_starts.ensures.roots.only (c.in_err-explored.ensures.too_many (ap Err same)) s

pub returns-clause-ok : goal.returns-clause-ok
returns-clause-ok c =
    surveyed (spec_of c.args.moves.now.spec.now) c.args.moves.now.count c.args.moves.now.within (look_kept c.add_starts-2.new.table)
    (kept_in c.add_starts.new.table.keys.items) (kept_in c.add_starts-2.new.table.keys.items) (kept_in c.in_ok-explored.explored.keys.items)
    c.in_ok-explored.explored.next.items c.in_ok-starts.starts.items c.in_ok-line_starts.line_starts.items
    c.in_ok-line_starts.ensures.roots c.in_ok-explored.ensures.ok c.in_ok-starts.ensures.places c.in_ok-line_starts.ensures.grows c.in_ok-starts.ensures.len
    c.in_ok-line_starts.ensures.places c.in_ok-line_starts.ensures.len

pub returns-clause-goes_on : goal.returns-clause-goes_on
returns-clause-goes_on c = λ i k a.
    c.in_ok-explored.ensures.goes_on.each i k a ∙ ap (λ (n : ℕ). not (is_empty (followers_in (rules_in (spec_of c.args.moves.now.spec.now)) n k))) (sym c.args.moves.now.within)

pub returns-clause-accepts_len : goal.returns-clause-accepts_len
returns-clause-accepts_len c =
    sym (keys_length c.in_ok-explored.explored.accepts.items) ∙ c.in_ok-explored.ensures.accepts.len ∙ kept_length c.in_ok-explored.explored.keys.items

pub returns-clause-accepted : goal.returns-clause-accepted
returns-clause-accepted c = c.in_ok-explored.ensures.accepts.each
