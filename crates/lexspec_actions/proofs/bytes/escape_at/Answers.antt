use Rattle.std.proofs.Common.{◌≡◌, ◌≤◌, suc, length, ap, rules, arith}
use Rattle.lexre_bytes.proofs.QuoteLaws.{after_octal, after_hexadecimal}
use Rattle.lexspec_actions.proofs.bytes.escape_at.Goals as goal

pub returns-in_ok-byte-in-120-clause-shorter : goal.returns-in_ok-byte-in-120-clause-shorter
returns-in_ok-byte-in-120-clause-shorter c =
    let less = after_hexadecimal _ _ _ c.in_ok-byte-in-120.ensures in
    let text : length c.args.text.now ≡ suc (length c.in_ok-first.after.now) = ap length c.in_ok-first.ensures.cases.0 in
    let within : length c.in_ok-byte-in-120.rest.now ≤ length c.args.text.now = omega (arith, less, text) in
    search rules

pub returns-in_ok-byte-in-48-to-55-clause-shorter : goal.returns-in_ok-byte-in-48-to-55-clause-shorter
returns-in_ok-byte-in-48-to-55-clause-shorter c =
    let less = after_octal _ _ _ c.in_ok-byte-in-48-to-55.ensures in
    let within : length c.in_ok-byte-in-48-to-55.rest.now ≤ length c.args.text.now = omega (arith, less) in
    search rules
