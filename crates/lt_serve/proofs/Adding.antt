-- What the commands that are built add to a history: a row or a change of the schema, or nothing.
use Rattle.std.proofs.Common.{◌≡◌, ℕ, IsTrue, List, [], ◌∷◌, ◌++◌, sym, subst}
use Rattle.std.specs.List.{AllByRecursion}
use Rattle.lt_schema.specs.declared.value.Value.{Value}
use Rattle.lt_schema.specs.declared.change.Change.{Change}
use Rattle.lt_command.specs.declared.query.Query.{Query}
use Rattle.lt_command.specs.declared.command.Command.{Command}
use Rattle.lt_command.specs.declared.command.Command.TheVariants.{Insert, Scan, Latest as LatestCommand, Flush, Upkeep, Alter, Tablets as TabletsCommand}
use Rattle.lt_command.specs.declared.reply.Reply.{Reply}
use Rattle.lt_command.specs.declared.reply.Reply.TheVariants.{BadLine, Inserted, BadRow, TooOld, Present, Spent, Rows, Latest, BadLimit, BadBound, Flushed, NoTablet, Upkept, Version, Refused, Tablets, Damaged, Fault, NoMemory}
use Rattle.lt_model.specs.History.{Entry, History}
use Rattle.lt_model.specs.Step.{IsStep, InsertStep, ScanStep, AlterStep}
use Rattle.lt_serve.specs.Session.{is_built, IsRowOrChange}

abbrev Plain : List Entry → Type 0
Plain added = AllByRecursion IsRowOrChange added

none_added : (added : List Entry) → added ≡ [] → Plain added
none_added added none = subst Plain (sym none) tt

insert_adds : (h : History) (now : ℕ) (row : List Value) (answer : Reply) (added : List Entry) → InsertStep h now row answer added → Plain added
insert_adds h now row (BadLine at) added step = absurd step
insert_adds h now row (Inserted seq) added step = subst Plain (sym step.1.only) (tt, tt)
insert_adds h now row (BadRow fault) added step = none_added added step.1
insert_adds h now row (TooOld bound) added step = none_added added step.1
insert_adds h now row (Present seq) added step = none_added added step.1
insert_adds h now row Spent added step = none_added added step.1
insert_adds h now row (Rows rows more place bound) added step = absurd step
insert_adds h now row (Latest found place bound) added step = absurd step
insert_adds h now row (BadLimit given) added step = absurd step
insert_adds h now row (BadBound fault) added step = absurd step
insert_adds h now row (Flushed kept_after tablets) added step = absurd step
insert_adds h now row (NoTablet named) added step = absurd step
insert_adds h now row (Upkept low_after run end swept) added step = absurd step
insert_adds h now row (Version version) added step = absurd step
insert_adds h now row (Refused why) added step = absurd step
insert_adds h now row (Tablets listing) added step = absurd step
insert_adds h now row (Damaged file at) added step = none_added added step
insert_adds h now row Fault added step = none_added added step
insert_adds h now row NoMemory added step = none_added added step

scan_adds : (h : History) (now : ℕ) (query : Query) (answer : Reply) (added : List Entry) → ScanStep h now query answer added → Plain added
scan_adds h now query (BadLine at) added step = absurd step
scan_adds h now query (Inserted seq) added step = absurd step
scan_adds h now query (BadRow fault) added step = absurd step
scan_adds h now query (TooOld bound) added step = absurd step
scan_adds h now query (Present seq) added step = absurd step
scan_adds h now query Spent added step = absurd step
scan_adds h now query (Rows rows more place bound) added step = none_added added step.2
scan_adds h now query (Latest row place bound) added step = absurd step
scan_adds h now query (BadLimit given) added step = none_added added step.2
scan_adds h now query (BadBound fault) added step = none_added added step.2
scan_adds h now query (Flushed kept_after tablets) added step = absurd step
scan_adds h now query (NoTablet named) added step = absurd step
scan_adds h now query (Upkept low_after run end swept) added step = absurd step
scan_adds h now query (Version version) added step = absurd step
scan_adds h now query (Refused why) added step = absurd step
scan_adds h now query (Tablets listing) added step = absurd step
scan_adds h now query (Damaged file at) added step = none_added added step
scan_adds h now query Fault added step = none_added added step
scan_adds h now query NoMemory added step = none_added added step

alter_adds : (h : History) (change : Change) (answer : Reply) (added : List Entry) → AlterStep h change answer added → Plain added
alter_adds h change (BadLine at) added step = absurd step
alter_adds h change (Inserted seq) added step = absurd step
alter_adds h change (BadRow fault) added step = absurd step
alter_adds h change (TooOld bound) added step = absurd step
alter_adds h change (Present seq) added step = absurd step
alter_adds h change Spent added step = none_added added step
alter_adds h change (Rows rows more place bound) added step = absurd step
alter_adds h change (Latest row place bound) added step = absurd step
alter_adds h change (BadLimit given) added step = absurd step
alter_adds h change (BadBound fault) added step = absurd step
alter_adds h change (Flushed kept_after tablets) added step = absurd step
alter_adds h change (NoTablet named) added step = absurd step
alter_adds h change (Upkept low_after run end swept) added step = absurd step
alter_adds h change (Version version) added step = subst Plain (sym step.2) (tt, tt)
alter_adds h change (Refused why) added step = none_added added step.1
alter_adds h change (Tablets listing) added step = absurd step
alter_adds h change (Damaged file at) added step = absurd step
alter_adds h change Fault added step = none_added added step
alter_adds h change NoMemory added step = none_added added step

-- a command that is built adds a row or a change of the schema, or nothing
pub built_adds : (h settled : History) (now : ℕ) (command : Command) (answer : Reply) (added : List Entry) → IsTrue (is_built command) → IsStep h settled now command answer added → AllByRecursion IsRowOrChange added
built_adds h settled now (Insert row) answer added built step = insert_adds h now row answer added step.1
built_adds h settled now (Scan query) answer added built step = scan_adds h now query answer added step.1
built_adds h settled now (Alter change) answer added built step = alter_adds h change answer added step.1
built_adds h settled now (LatestCommand prefix) answer added built step = absurd (cc)
built_adds h settled now (Flush which) answer added built step = absurd (cc)
built_adds h settled now Upkeep answer added built step = absurd (cc)
built_adds h settled now TabletsCommand answer added built step = absurd (cc)

-- and so it is of all together
pub all_plain : (entries added : List Entry) → AllByRecursion IsRowOrChange entries → AllByRecursion IsRowOrChange added → AllByRecursion IsRowOrChange (entries ++ added)
all_plain [] added before more = more
all_plain (entry ∷ entries) added before more = (before.0, all_plain entries added before.1 more)
