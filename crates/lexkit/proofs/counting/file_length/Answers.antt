use Rattle.std.proofs.Common.{rules, ◌<◌, ◌^◌, arith}
use Rattle.lextab_packed.specs.Views.{table_of}
use Rattle.lextab_file.specs.File.{file_of}
use Rattle.lexkit.proofs.FileBound.{file_short, counted}
use Rattle.lexkit.proofs.counting.file_length.Goals as goal

pub overflow_cast-result : goal.overflow_cast-result
overflow_cast-result c =
    let t = table_of c.args.tables.now.parts in
    let short = file_short t c.args.tables.now.lawful in
    let is = counted (file_of t) c.write_tables.new.sink.bytes c.write_tables.result c.write_tables.ensures.failures c.write_tables.ensures.bytes short in
    let low : c.write_tables.new.sink.bytes < 2 ^ 32 = omega (arith, short, is) in
    search (rules, low)

pub returns : goal.returns
returns c =
    let t = table_of c.args.tables.now.parts in
    counted (file_of t) c.write_tables.new.sink.bytes c.write_tables.result c.write_tables.ensures.failures c.write_tables.ensures.bytes (file_short t c.args.tables.now.lawful)
