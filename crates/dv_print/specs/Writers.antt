-- How the rows of marts and tables are written: as `csv` writes by default, and a row may have another number of fields than the header.
use Rattle.std.specs.Prelude.{◌≡◌, true, false}
use Rattle.csv.specs.Writing.{default_writer, fields_written, has_written, with_flexible, writer_setup}
use Rattle.csv.specs.declared.writer.Writer.{Writer}
use Rattle.csv.specs.declared.writer.WriterBuilder.{WriterBuilder}

abbrev pub row_writer : WriterBuilder
row_writer = with_flexible default_writer true

-- a writer of rows stands between two records
pub record IsBetweenRecords {W : Type 0} (writer : Writer W) : Type 0 where
  pub setup : writer_setup writer ≡ row_writer
  pub fields : fields_written writer ≡ 0
  pub wrote : has_written writer ≡ false
