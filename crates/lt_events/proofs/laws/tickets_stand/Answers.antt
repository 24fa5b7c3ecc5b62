use Rattle.lt_events.proofs.Lending.{room_begins, lend_stands}
use Rattle.lt_events.proofs.Tickets.{ticket_stands, release_stands}
use Rattle.lt_events.proofs.laws.tickets_stand.Goals as goal

pub returns-clause-room : goal.returns-clause-room
returns-clause-room c = room_begins

pub returns-clause-lend : goal.returns-clause-lend
returns-clause-lend c = lend_stands

pub returns-clause-ticket : goal.returns-clause-ticket
returns-clause-ticket c = ticket_stands

pub returns-clause-release : goal.returns-clause-release
returns-clause-release c = release_stands
