use Rattle.std.proofs.Common.{◌≡◌, ◌++◌, ◌∷◌, [], ℕ, List, flat_map, codes, decimal, sym, ap, ◌∙◌, append_assoc}
use Rattle.lexauto_reports.specs.ReportLines.{shown}
use Rattle.lexauto_reports.proofs.Parts.{line_is, longer, stopped, appended_after}
use Rattle.lexauto_reports.proofs.backup.write_entry.Goals as goal

pub returns-in-Err-clause-bytes : goal.returns-in-Err-clause-bytes
returns-in-Err-clause-bytes g c =
    let some = c.in-Err.ensures.bytes in
    let n : decimal c.args.entry.now.state ≡ c.format-state.result.now = sym c.format-state.ensures.text in
    let word = flat_map shown c.args.entry.now.word.items ++ (34 ∷ 10 ∷ []) in (
      some.0,
      (
        some.1.0 ++ word,
        ap (λ l. codes "state " ++ (l ++ (codes " after \"" ++ word))) n ∙ line_is c.format-state.result.now (flat_map shown c.args.entry.now.word.items) (34 ∷ 10 ∷ [])
            ∙ longer _ some.0 some.1.0 word some.1.1,
      ),
      some.2,
    )

pub returns-in-Err-write_word-clause-bytes : goal.returns-in-Err-write_word-clause-bytes
returns-in-Err-write_word-clause-bytes g c =
    let some = c.in-Err-write_word.ensures.bytes in
    let n : decimal c.args.entry.now.state ≡ c.format-state.result.now = sym c.format-state.ensures.text in
    let b : flat_map shown c.args.entry.now.word.items ≡ flat_map shown c.deref.result.now = ap (flat_map shown) (sym c.deref.ensures.value) in
    let head = codes "state " ++ (c.format-state.result.now ++ codes " after \"") in (
      head ++ some.0,
      (
        some.1.0 ++ (34 ∷ 10 ∷ []),
        stopped _ head (flat_map shown c.deref.result.now) (34 ∷ 10 ∷ []) some.0 some.1.0
            (ap (λ l. codes "state " ++ (l ++ (codes " after \"" ++ (flat_map shown c.args.entry.now.word.items ++ (34 ∷ 10 ∷ []))))) n
            ∙ ap (λ l. codes "state " ++ (c.format-state.result.now ++ (codes " after \"" ++ (l ++ (34 ∷ 10 ∷ []))))) b
            ∙ line_is c.format-state.result.now (flat_map shown c.deref.result.now) (34 ∷ 10 ∷ [])) some.1.1,
      ),
      g.met.K.Sink.wrote_more _ _ _ _ _ c.in_default.ensures.bytes some.2,
    )

pub returns-clause-bytes : goal.returns-clause-bytes
returns-clause-bytes g c =
    let n : decimal c.args.entry.now.state ≡ c.format-state.result.now = sym c.format-state.ensures.text in
    let b : flat_map shown c.args.entry.now.word.items ≡ flat_map shown c.deref.result.now = ap (flat_map shown) (sym c.deref.ensures.value) in
    let head = codes "state " ++ (c.format-state.result.now ++ codes " after \"") in
    let word = flat_map shown c.deref.result.now in
    let e = ap (λ l. codes "state " ++ (l ++ (codes " after \"" ++ (flat_map shown c.args.entry.now.word.items ++ (34 ∷ 10 ∷ []))))) n
    ∙ ap (λ l. codes "state " ++ (c.format-state.result.now ++ (codes " after \"" ++ (l ++ (34 ∷ 10 ∷ []))))) b
    ∙ line_is c.format-state.result.now word (34 ∷ 10 ∷ []) ∙ sym (append_assoc head word (34 ∷ 10 ∷ [])) in
    let before : List ℕ → Type 0 = λ xs. g.K.Sink.wrote c.args.sink.now xs c.put.new.self in
    let after : List ℕ → Type 0 = λ xs. g.K.Sink.wrote c.write_word.new.sink xs c.put.new.self in
    let wrote : g.K.Sink.wrote c.args.sink.now (head ++ word) c.write_word.new.sink = g.met.K.Sink.wrote_more _ _ _ _ _ c.in_default.ensures.bytes c.in_default-write_word.ensures.bytes in
    let join : (xs : List ℕ) → after xs → before ((head ++ word) ++ xs) = λ xs. g.met.K.Sink.wrote_more _ _ c.put.new.self (head ++ word) xs wrote in
    rw e (appended_after before after (head ++ word) (34 ∷ 10 ∷ []) c.put.result join c.put.ensures.bytes)
