-- What a core's refusals say of those below.
use Rattle.lt_commit.specs.declared.errors.CommitError.{CommitError}
use Rattle.lt_commit.specs.declared.errors.CommitError.TheVariants as commit
use Rattle.lt_core.specs.declared.errors.CoreAlterError.{CoreAlterError}
use Rattle.lt_core.specs.declared.errors.CoreAlterError.TheVariants as alter

abbrev pub commit_refusal : CommitError → CoreAlterError
commit_refusal commit.Spent = alter.Spent
commit_refusal commit.Fault = alter.Fault
commit_refusal commit.NoMemory = alter.NoMemory
