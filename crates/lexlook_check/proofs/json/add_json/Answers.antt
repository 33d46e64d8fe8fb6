use Rattle.std.proofs.Common.{ℕ, List, Option, map, option_map}
use Rattle.std.proofs.lemmas.Result.{on_ok_weaker}
use Rattle.lexlook_check.specs.CheckLines.{shown_line, whole_hint}
use Rattle.lexlook_check.specs.JsonLines.{place_fields, what_fields}
use Rattle.lexlook_check.specs.SourceLines.{place_in}
use Rattle.lexlook_check.specs.Takings.{taking_of}
use Rattle.lexlook_check.proofs.Parts.{of_line}
use Rattle.lexlook_check.proofs.json.add_json.Goals as goal

pub returns : goal.returns
returns c =
    on_ok_weaker c.add_what_fields.result
    (λ h. of_line {A = Option (List ℕ)} (λ l. place_fields c.args.files.now l c.args.finding) (λ l o. what_fields l c.args.finding.what o)
    (λ l. whole_hint c.args.files.now c.args.whole.now (map taking_of c.args.takings.now) c.args.finding (place_in c.args.finding.at l) l)
    c.args.text.now.items c.add_place_fields.new.text.items c.add_what_fields.new.text.items c.shown_line-line.result.now (shown_line c.args.whole.now c.args.finding)
    (option_map (λ v. v.items) c.in_ok-hint.hint) c.shown_line-line.ensures c.in_ok-hint.ensures c.in_ok-add_place_fields.ensures h) c.add_what_fields.ensures
