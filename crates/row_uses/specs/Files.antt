-- The columns of uses by the structs that hold or lend them.
use Rattle.std.specs.Prelude.{ℕ}
use Rattle.row_uses.specs.Uses.{Columns, columns}
use Rattle.row_uses.specs.declared.Uses.{Uses}
use Rattle.row_uses.specs.declared.UseFile.{UseFile}

abbrev pub lent_of : Uses → Columns
lent_of u = columns u.prev.now u.lags.now u.firsts.now u.departures.now u.rates.now

abbrev pub columns_of : {ROWS USES : ℕ} → UseFile ROWS USES → Columns
columns_of f = columns f.prev f.lags f.firsts f.departures f.rates
