use Rattle.std.proofs.Common.{Some, None, sym}
use Rattle.std.proofs.lemmas.List.{append-nil}
use Rattle.lt_serve.proofs.session.answer_line.Goals as goal

pub returns-in-Some : goal.returns-in-Some
returns-in-Some g c = (Some c.in-Some.reply, c.in-Some.ensures, c.put_reply.ensures)

pub returns-in-None : goal.returns-in-None
returns-in-None g c = (None, c.in-None.ensures, sym (append-nil c.args.text.now.items))
