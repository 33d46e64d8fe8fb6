use Rattle.std.proofs.Common.{[], sym, subst}
use Rattle.lexlook_calls.specs.Lines.{side_as}
use Rattle.lexlook_calls.specs.Naming.{ArePaired}
use Rattle.lexlook_calls.specs.Sides.{read_as}
use Rattle.lextab_packed.specs.Machines.{table_machine}
use Rattle.lexlook_tables.specs.Comparing.{Compares}
use Rattle.lexlook_calls.proofs.Sided.{paired_within, holds_of}
use Rattle.lexlook_calls.proofs.same.compare_sides.Goals as goal

pub compare-requires : goal.compare-requires
compare-requires c = λ same i lt. paired_within (side_as [] c.args.left.now) (side_as [] c.args.right.now) c.as_slice.result.now (c.requires.left []) (c.requires.right []) paired same i lt
  where
    found : ArePaired (read_as c.args.left.now.spec) (read_as c.args.right.now.spec) c.in-Some.order.items
    found = rw c.in-Some.is at c.in_ok-pairing.ensures.some

    paired : ArePaired (read_as c.args.left.now.spec) (read_as c.args.right.now.spec) c.as_slice.result.now
    paired = subst (ArePaired (read_as c.args.left.now.spec) (read_as c.args.right.now.spec)) (sym c.as_slice.ensures.value) found

pub returns-in_ok-told-in-Some : goal.returns-in_ok-told-in-Some
returns-in_ok-told-in-Some c = λ name other. holds_of (side_as name c.args.left.now) (side_as other c.args.right.now) c.in-Some.order.items c.in_ok-told-in-Some.told paired compares
  where
    paired : ArePaired (read_as c.args.left.now.spec) (read_as c.args.right.now.spec) c.in-Some.order.items
    paired = rw c.in-Some.is at c.in_ok-pairing.ensures.some

    compares : Compares c.in-Some.order.items (table_machine c.args.left.now.tables) (table_machine c.args.right.now.tables) c.in_ok-told-in-Some.told
    compares = subst (λ o. Compares o (table_machine c.args.left.now.tables) (table_machine c.args.right.now.tables) c.in_ok-told-in-Some.told) c.as_slice.ensures.value c.in_ok-told-in-Some.ensures
