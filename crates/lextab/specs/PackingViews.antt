-- A packed table without where it lies in memory.
use Rattle.lextab.specs.declared.packing.Packed.{Packed}
use Rattle.lextab.specs.Columns.{Packing}

abbrev pub packing_of : Packed → Packing
packing_of p =
    record {
      class_of = p.class_of.items;
      class_count = p.class_count;
      defaults = p.defaults.items;
      bases = p.bases.items;
      check = p.check.items;
      next = p.next.items;
    }
