use Rattle.std.proofs.Common.{◌≤◌, ℕ, [], Some, None, sym, ◌∙◌, subst}
use Rattle.std.specs.Prelude.{Option, IfSome}
use Rattle.lt_io.specs.Directory.{Directory}
use Rattle.lt_commit.specs.Anchored.{newest}
use Rattle.lt_model.specs.History.{Opening}
use Rattle.lt_model.specs.Legal.{IsLegal}
use Rattle.lt_serve.specs.Loading.{FindsTable, LoadsStone}
use Rattle.lt_serve.specs.Made.{LeavesAll}
use Rattle.lt_serve.specs.Ended.{Ends}
use Rattle.lt_serve.proofs.Opening.{legal_at_first, loads_stone}
use Rattle.lt_serve.proofs.Causes.{ends_unloaded, ends_in_files, ends_loaded, of_loaded}
use Rattle.lt_serve.proofs.serving.session_in.Goals as goal

pub returns-in-Err-clause-ends : goal.returns-in-Err-clause-ends
returns-in-Err-clause-ends g c =
    let said = c.in-Err.ensures in
    ends_unloaded g.V.Device.honest (g.C.Clock.shows c.args.clock.now) c.args.input.now (g.V.Device.directory c.args.dir) (g.V.Device.directory c.in-Err.dir) (g.V.Device.faults c.args.device.now) (g.V.Device.faults c.load.new.dev) c.in-Err.why
    said.no_table said.bad record { any_moment = said.any_moment; images = said.images; seen = said.seen; lent = said.lent }

pub returns-in-Ok-None-clause-ends : goal.returns-in-Ok-None-clause-ends
returns-in-Ok-None-clause-ends g c =
    let honest = g.V.Device.honest in
    let old = g.V.Device.directory c.args.dir in
    let anchor = c.in-Ok.loaded.0 in
    let said = c.in-Ok.ensures in
    let leaves : LeavesAll honest old anchor.directory = record { any_moment = said.any_moment; images = said.images; seen = said.seen; lent = said.lent } in
    let found = subst (λ (o : Option Opening). IfSome (newest anchor.may) (λ stone. FindsTable stone o)) c.in-Ok-None.field-0-is c.in-Ok-None.ensures in
    ends_in_files honest (g.C.Clock.shows c.args.clock.now) c.args.input.now old (g.V.Device.directory c.into_dir.result) (g.V.Device.faults c.args.device.now) (g.V.Device.faults c.load.new.dev) anchor c.in-Ok.loaded.1 said.loaded
    (of_loaded honest old anchor c.in-Ok.loaded.1 said.loaded (λ stone. FindsTable stone None) found) (subst (LeavesAll honest old) (sym c.into_dir.ensures.same) leaves)

pub returns-in-Err-opened-clause-ends : goal.returns-in-Err-opened-clause-ends
returns-in-Err-opened-clause-ends g c =
    let honest = g.V.Device.honest in
    let old = g.V.Device.directory c.args.dir in
    let said = c.in-Ok.ensures in
    let leaves : LeavesAll honest old c.in-Ok.loaded.0.directory = record { any_moment = said.any_moment; images = said.images; seen = said.seen; lent = said.lent } in
    record { served = tt; cause = tt; unanswered = subst (LeavesAll honest old) (sym c.into_dir-in-Err-opened.ensures.same) leaves }

pub answered-text-requires-clause-opens : goal.answered-text-requires-clause-opens
answered-text-requires-clause-opens g c κs within =
    let honest = g.V.Device.honest in
    let old = g.V.Device.directory c.args.dir in
    let anchor = c.in-Ok.loaded.0 in
    let loaded = c.in-Ok.ensures.loaded in
    let seen = subst (λ (o : Option Opening). IfSome (newest anchor.may) (λ stone. FindsTable stone o)) c.in-Ok-Some.field-0-is c.in-Ok-Some.ensures in
    let found : FindsTable loaded.stone (Some c.in-Ok-Some.table) = of_loaded honest old anchor c.in-Ok.loaded.1 loaded (λ stone. FindsTable stone (Some c.in-Ok-Some.table)) seen in
    subst (λ (o : Opening). IsLegal (record { opening = o; entries = [] })) (sym (c.new-store.ensures.table ∙ found.1)) (legal_at_first loaded.stone loaded.lawful)

pub returns-clause-ends : goal.returns-clause-ends
returns-clause-ends g c =
    let honest = g.V.Device.honest in
    let clock = g.C.Clock.shows c.args.clock.now in
    let old = g.V.Device.directory c.args.dir in
    let anchor = c.in-Ok.loaded.0 in
    let said = c.in-Ok.ensures in
    let stone = said.loaded.stone in
    let store = c.new-store.result in
    let after = c.answered-text.new.store in
    let before = g.V.Device.faults c.args.device.now in
    let now = g.V.Device.faults c.answered-text.new.device in
    let leaves : LeavesAll honest old anchor.directory = record { any_moment = said.any_moment; images = said.images; seen = said.seen; lent = said.lent } in
    let seen = subst (λ (o : Option Opening). IfSome (newest anchor.may) (λ stone. FindsTable stone o)) c.in-Ok-Some.field-0-is c.in-Ok-Some.ensures in
    let found : FindsTable stone (Some c.in-Ok-Some.table) = of_loaded honest old anchor c.in-Ok.loaded.1 said.loaded (λ stone. FindsTable stone (Some c.in-Ok-Some.table)) seen in
    let loads : LoadsStone honest old stone store.anchor.directory store.next_file =
    subst (λ (d : Directory). LoadsStone honest old stone d store.next_file) (sym c.new-store.ensures.directory)
    (subst (λ (free : ℕ). LoadsStone honest old stone anchor.directory free) (sym c.new-store.ensures.number) (loads_stone honest old anchor c.in-Ok.loaded.1 said.loaded said.anchored found.0 leaves)) in
    subst (λ (d : Directory). Ends honest clock c.args.input.now old d before now c.answered-text.result) (sym c.into_dir-2.ensures.same)
    (ends_loaded honest clock c.args.input.now old store.anchor.directory after.anchor.directory stone store.table after.table before (g.V.Device.faults c.load.new.dev) now store.next_file after.next_file c.answered-text.result
    loads (c.new-store.ensures.table ∙ found.1) (subst (λ (d : Directory). d.now.ceiling ≤ after.next_file) c.into_dir-2.ensures.same c.into_dir-2.ensures.ceiling) c.load.ensures.cause.later
    c.answered-text.ensures.built c.answered-text.ensures.answered c.answered-text.ensures.unanswered)
