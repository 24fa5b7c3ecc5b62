use Rattle.std.proofs.Common.{length, [], ◌∷◌, ◌++◌, ℕ, Contains, ◌↔◌, sym, ◌∙◌, ap, subst}
use Rattle.lt_commit.specs.Anchored.{Goes}
use Rattle.lt_commit.proofs.Removal.{removed_none, swept, sees_swept}
use Rattle.lt_commit.proofs.Kept.{anchored_swept}
use Rattle.lt_commit.proofs.Pictures.{kept}
use Rattle.lt_commit.proofs.Spared.{going, counted}
use Rattle.lt_commit.proofs.anchor.Anchor.sweep.Goals as goal

pub returns-in_err-files-clause-any_moment : goal.returns-in_err-files-clause-any_moment
returns-in_err-files-clause-any_moment g c = λ h. removed_none _ _

pub returns-in_err-files-clause-images : goal.returns-in_err-files-clause-images
returns-in_err-files-clause-images g c = λ h. kept _ _ _ (removed_none _ _)

pub returns-in_err-gone-clause-any_moment : goal.returns-in_err-gone-clause-any_moment
returns-in_err-gone-clause-any_moment g c = λ h. removed_none _ _

pub returns-in_err-gone-clause-images : goal.returns-in_err-gone-clause-images
returns-in_err-gone-clause-images g c = λ h. kept _ _ _ (removed_none _ _)

pub invariant_of-self : goal.invariant_of-self
invariant_of-self g c = anchored_swept g.V.Device.honest _ _ _ _ c.in_err-remove_all.ensures.any_moment c.in_err-remove_all.ensures.possible c.self.invariant

pub returns-in_err-remove_all-clause-anchored : goal.returns-in_err-remove_all-clause-anchored
returns-in_err-remove_all-clause-anchored g c = anchored_swept g.V.Device.honest _ _ _ _ c.in_err-remove_all.ensures.any_moment c.in_err-remove_all.ensures.possible c.self.invariant

pub invariant_of-self-2 : goal.invariant_of-self-2
invariant_of-self-2 g c = anchored_swept g.V.Device.honest _ _ _ _ c.in_ok-remove_all.ensures.any_moment c.in_ok-remove_all.ensures.possible c.self.invariant

pub returns-clause-anchored : goal.returns-clause-anchored
returns-clause-anchored g c = anchored_swept g.V.Device.honest _ _ _ _ c.in_ok-remove_all.ensures.any_moment c.in_ok-remove_all.ensures.possible c.self.invariant

pub returns-in_err-remove_all-clause-any_moment : goal.returns-in_err-remove_all-clause-any_moment
returns-in_err-remove_all-clause-any_moment g c = λ h.
    let each : (file : ℕ) → Contains c.in_ok-gone.gone.items file ↔ Goes c.args.self.now c.args.busy.now file =
    going record { directory = g.V.Device.directory c.self.inside.dir; may = c.self.inside.older.items ++ c.self.inside.last ∷ [] } c.args.self.now c.args.busy.now _ _ _ _ c.self.view_is
    (ap (λ l. l ++ c.self.inside.last ∷ []) c.as_slice.ensures.value) c.as_slice-2.ensures (c.in_ok-files.ensures.files h) c.in_ok-gone.ensures in
    swept (Goes c.args.self.now c.args.busy.now) c.in_ok-gone.gone.items _ _ _ _ (ap (λ a. a.directory) c.self.view_is) c.as_slice-3.ensures.value (λ file. (each file).0) (c.in_err-remove_all.ensures.any_moment h)

pub returns-in_err-remove_all-clause-images : goal.returns-in_err-remove_all-clause-images
returns-in_err-remove_all-clause-images g c = λ h.
    let each : (file : ℕ) → Contains c.in_ok-gone.gone.items file ↔ Goes c.args.self.now c.args.busy.now file =
    going record { directory = g.V.Device.directory c.self.inside.dir; may = c.self.inside.older.items ++ c.self.inside.last ∷ [] } c.args.self.now c.args.busy.now _ _ _ _ c.self.view_is
    (ap (λ l. l ++ c.self.inside.last ∷ []) c.as_slice.ensures.value) c.as_slice-2.ensures (c.in_ok-files.ensures.files h) c.in_ok-gone.ensures in
    kept _ _ _ (swept (Goes c.args.self.now c.args.busy.now) c.in_ok-gone.gone.items _ _ _ _ (ap (λ a. a.directory) c.self.view_is) c.as_slice-3.ensures.value (λ file. (each file).0) (c.in_err-remove_all.ensures.any_moment h))

pub returns-in_err-remove_all-clause-kept : goal.returns-in_err-remove_all-clause-kept
returns-in_err-remove_all-clause-kept g c = λ h.
    let each : (file : ℕ) → Contains c.in_ok-gone.gone.items file ↔ Goes c.args.self.now c.args.busy.now file =
    going record { directory = g.V.Device.directory c.self.inside.dir; may = c.self.inside.older.items ++ c.self.inside.last ∷ [] } c.args.self.now c.args.busy.now _ _ _ _ c.self.view_is
    (ap (λ l. l ++ c.self.inside.last ∷ []) c.as_slice.ensures.value) c.as_slice-2.ensures (c.in_ok-files.ensures.files h) c.in_ok-gone.ensures in
    sees_swept (Goes c.args.self.now c.args.busy.now) c.in_ok-gone.gone.items _ _ _ _ (ap (λ a. a.directory) c.self.view_is) c.as_slice-3.ensures.value (λ file. (each file).0) (c.in_err-remove_all.ensures.kept h)

pub returns-clause-any_moment : goal.returns-clause-any_moment
returns-clause-any_moment g c = λ h.
    let each : (file : ℕ) → Contains c.in_ok-gone.gone.items file ↔ Goes c.args.self.now c.args.busy.now file =
    going record { directory = g.V.Device.directory c.self.inside.dir; may = c.self.inside.older.items ++ c.self.inside.last ∷ [] } c.args.self.now c.args.busy.now _ _ _ _ c.self.view_is
    (ap (λ l. l ++ c.self.inside.last ∷ []) c.as_slice.ensures.value) c.as_slice-2.ensures (c.in_ok-files.ensures.files h) c.in_ok-gone.ensures in
    swept (Goes c.args.self.now c.args.busy.now) c.in_ok-gone.gone.items _ _ _ _ (ap (λ a. a.directory) c.self.view_is) c.as_slice-3.ensures.value (λ file. (each file).0) (c.in_ok-remove_all.ensures.any_moment h)

pub returns-clause-images : goal.returns-clause-images
returns-clause-images g c = λ h.
    let each : (file : ℕ) → Contains c.in_ok-gone.gone.items file ↔ Goes c.args.self.now c.args.busy.now file =
    going record { directory = g.V.Device.directory c.self.inside.dir; may = c.self.inside.older.items ++ c.self.inside.last ∷ [] } c.args.self.now c.args.busy.now _ _ _ _ c.self.view_is
    (ap (λ l. l ++ c.self.inside.last ∷ []) c.as_slice.ensures.value) c.as_slice-2.ensures (c.in_ok-files.ensures.files h) c.in_ok-gone.ensures in
    kept _ _ _ (swept (Goes c.args.self.now c.args.busy.now) c.in_ok-gone.gone.items _ _ _ _ (ap (λ a. a.directory) c.self.view_is) c.as_slice-3.ensures.value (λ file. (each file).0) (c.in_ok-remove_all.ensures.any_moment h))

pub returns-clause-kept : goal.returns-clause-kept
returns-clause-kept g c = λ h.
    let each : (file : ℕ) → Contains c.in_ok-gone.gone.items file ↔ Goes c.args.self.now c.args.busy.now file =
    going record { directory = g.V.Device.directory c.self.inside.dir; may = c.self.inside.older.items ++ c.self.inside.last ∷ [] } c.args.self.now c.args.busy.now _ _ _ _ c.self.view_is
    (ap (λ l. l ++ c.self.inside.last ∷ []) c.as_slice.ensures.value) c.as_slice-2.ensures (c.in_ok-files.ensures.files h) c.in_ok-gone.ensures in
    sees_swept (Goes c.args.self.now c.args.busy.now) c.in_ok-gone.gone.items _ _ _ _ (ap (λ a. a.directory) c.self.view_is) c.as_slice-3.ensures.value (λ file. (each file).0) (c.in_ok-remove_all.ensures.kept h)

pub returns-clause-gone : goal.returns-clause-gone
returns-clause-gone g c = λ h file goes.
    let each : (file : ℕ) → Contains c.in_ok-gone.gone.items file ↔ Goes c.args.self.now c.args.busy.now file =
    going record { directory = g.V.Device.directory c.self.inside.dir; may = c.self.inside.older.items ++ c.self.inside.last ∷ [] } c.args.self.now c.args.busy.now _ _ _ _ c.self.view_is
    (ap (λ l. l ++ c.self.inside.last ∷ []) c.as_slice.ensures.value) c.as_slice-2.ensures (c.in_ok-files.ensures.files h) c.in_ok-gone.ensures in
    c.in_ok-remove_all.ensures.gone h file (subst (λ l. Contains l file) (sym c.as_slice-3.ensures.value) ((each file).1 goes))

pub returns-clause-count : goal.returns-clause-count
returns-clause-count g c = λ h.
    let each : (file : ℕ) → Contains c.in_ok-gone.gone.items file ↔ Goes c.args.self.now c.args.busy.now file =
    going record { directory = g.V.Device.directory c.self.inside.dir; may = c.self.inside.older.items ++ c.self.inside.last ∷ [] } c.args.self.now c.args.busy.now _ _ _ _ c.self.view_is
    (ap (λ l. l ++ c.self.inside.last ∷ []) c.as_slice.ensures.value) c.as_slice-2.ensures (c.in_ok-files.ensures.files h) c.in_ok-gone.ensures in
    counted c.args.self.now c.args.busy.now _ _ c.in_ok-gone.gone.items _ _ each c.in_ok-files.ensures.rising c.as_slice-2.ensures c.in_ok-gone.ensures (c.len.ensures ∙ sym c.as_slice-3.ensures.len ∙ ap length c.as_slice-3.ensures.value)
