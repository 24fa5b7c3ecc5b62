use Rattle.lt_command.specs.declared.command.Line.TheVariants as lines
use Rattle.lt_lang.proofs.Wanted.{sentence_line, skip_line}
use Rattle.lt_lang.proofs.Exactly.{read_so, found_so}
use Rattle.lt_lang.proofs.sentences.read_line.Goals as goal

pub returns : goal.returns
returns c = record {
  exact = c.line_at.ensures;
  read = read_so c.args.line.now c.line_at.result c.line_at.ensures;
  only = λ client moment command is. found_so c.args.line.now c.line_at.result (lines.Command client moment command) c.line_at.ensures (sentence_line c.args.line.now client moment command is);
  skipped = λ is. found_so c.args.line.now c.line_at.result lines.Skip c.line_at.ensures (skip_line c.args.line.now is);
}
