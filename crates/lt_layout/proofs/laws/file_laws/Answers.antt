use Rattle.lt_layout.proofs.Whole.{file_takes, file_again}
use Rattle.lt_layout.proofs.laws.file_laws.Goals as goal

pub returns : goal.returns
returns c = record {
  read_is_spelled = λ t listed bytes blocks fits e. let f = file_takes t listed bytes blocks fits e in (f.tablet, f.spelled_so, f.totals, f.listed_so);
  spelled_is_read = file_again;
}
