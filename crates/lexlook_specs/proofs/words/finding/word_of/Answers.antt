use Rattle.std.proofs.Common.{rules, ◌≡◌, ◌↔◌, ◌∙◌, ℕ, List, Option, Some, None, ap, subst}
use Rattle.std.specs.Vec.{vec_len}
use Rattle.lex_semantics.specs.Text.{Among}
use Rattle.lexauto_dfa.specs.Automata.{conditions_of, states_of}
use Rattle.lexauto_dfa.specs.declared.dfa.Parts.{Parts}
use Rattle.lexauto_reports.specs.Searching.{words_of}
use Rattle.lexlook_specs.specs.Placing.{IsFirstStart, TakesAt, TakesBelow}
use Rattle.lexlook_specs.specs.declared.words.starting.Start.{Start}
use Rattle.lexlook_specs.specs.declared.words.starting.Wish.TheVariants.{Takes}
use Rattle.lexlook_specs.proofs.Places.{least_there, least_nowhere}
use Rattle.lexlook_specs.proofs.Told.{first_taken, never_taken, some_start}
use Rattle.lexlook_specs.proofs.words.finding.word_of.Goals as goal
use Rattle.lexlook_specs.proofs.words.finding.word_of.Goals.{in-Some+in_default-first_start, in_default}

pub returns-in-Some-first_start : goal.returns-in-Some-first_start
returns-in-Some-first_start c =
    let d = c.args.dfa.now in
    let rejects = c.args.rejects.now in
    let words = words_of c.args.found.now.groups in
    let places = c.args.found.now.places.items in
    let rule = c.args.rule in
    let n : c.len-conditions.result ≡ conditions_of d = c.len-conditions.ensures ∙ ap (λ (p : Parts). vec_len p.starts) c.parts.ensures ∙ (search rules) in
    let r = least_there (TakesAt d.parts rejects places (states_of d) rule) c.args.first c.in-Some.place c.requires.first c.in-Some.is in
    let one = subst (λ (o : Option Start). IsFirstStart d.parts rejects c.word-text.result.now (Takes rule) c.len-conditions.result o) c.in-Some-first_start.is c.first_start.ensures in
    let two = subst (λ (k : ℕ). IsFirstStart d.parts rejects c.word-text.result.now (Takes rule) k (Some c.in-Some-first_start.start)) n one in
    let three = subst (λ (w : List ℕ). IsFirstStart d.parts rejects w (Takes rule) (conditions_of d) (Some c.in-Some-first_start.start)) c.word-text.ensures two in
    first_taken d.parts d.lawful rejects words places c.requires.found rule c.in-Some.place c.in-Some-first_start.start c.in_ok-shown_text.field-0 r.0 r.1 three
    c.in_ok-shown_text.ensures.condition c.in_ok-shown_text.ensures.line_start (c.in_ok-shown_text.ensures.text ∙ c.word-text.ensures)

pub returns : goal.returns
returns c =
    let d = c.args.dfa.now in
    let rejects = c.args.rejects.now in
    let words = words_of c.args.found.now.groups in
    let places = c.args.found.now.places.items in
    let rule = c.args.rule in
    let none : (j : ℕ) → TakesAt d.parts rejects places (states_of d) rule j → ⊥ = elim c.match-first.branch [
      | in-Some+in_default-first_start w ↦
          (let n : w.len-conditions.result ≡ conditions_of d = w.len-conditions.ensures ∙ ap (λ (p : Parts). vec_len p.starts) w.parts.ensures ∙ (search rules) in
          let r = least_there (TakesAt d.parts rejects places (states_of d) rule) c.args.first w.in-Some.place c.requires.first w.in-Some.is in
          let one = subst (λ (o : Option Start). IsFirstStart d.parts rejects w.word-text.result.now (Takes rule) w.len-conditions.result o) w.in_default-first_start.is w.first_start.ensures in
          let two = subst (λ (k : ℕ). IsFirstStart d.parts rejects w.word-text.result.now (Takes rule) k None) n one in
          let three = subst (λ (t : List ℕ). IsFirstStart d.parts rejects t (Takes rule) (conditions_of d) None) w.word-text.ensures two in
          λ j t. absurd (some_start d.parts d.lawful rejects words places c.requires.found rule w.in-Some.place r.0 three))
      | in_default w ↦ least_nowhere (TakesAt d.parts rejects places (states_of d) rule) c.args.first c.requires.first w.in_default.is
    ] in
    let value = c.deref.ensures.value in
    never_taken d.parts d.lawful rejects words places c.requires.found rule c.in_ok-takers.field-0.items none c.in_ok-takers.ensures.ascending
    (subst (λ (l : List (Option ℕ)). (j : ℕ) → Among c.in_ok-takers.field-0.items j ↔ TakesBelow d.parts rejects l (states_of d) rule j) value c.in_ok-takers.ensures.takers)
