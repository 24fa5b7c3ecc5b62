use Rattle.std.proofs.Common.{◌≡◌, ◌≤◌, [], ◌∷◌, ◌++◌, sym, ◌∙◌, ap, subst}
use Rattle.lt_io.specs.Directory.{lent}
use Rattle.lt_desc.specs.Spelling.{spelling}
use Rattle.lt_commit.proofs.Kept.{anchored_lent, anchored_pointed, steps_lent, steps_on}
use Rattle.lt_commit.proofs.Pictures.{old_or_new}
use Rattle.lt_commit.proofs.anchor.Anchor.publish.Goals as goal

pub invariant_of-self : goal.invariant_of-self
invariant_of-self g c =
    let same : g.V.Device.directory c.self.inside.dir ≡ c.args.self.now.directory = ap (λ a. a.directory) c.self.view_is in
    anchored_lent g.V.Device.honest _ _ _ c.args.file (subst (λ d. d.now.ceiling ≤ c.args.file) (sym same) c.requires.unlent) c.prepare.ensures.lent c.self.invariant

pub returns-in_err-reader-clause-any_moment : goal.returns-in_err-reader-clause-any_moment
returns-in_err-reader-clause-any_moment g c = λ h.
    let same : g.V.Device.directory c.self.inside.dir ≡ c.args.self.now.directory = ap (λ a. a.directory) c.self.view_is in
    steps_lent _ _ _ _ c.requires.unlent (c.prepare.ensures.lent h ∙ ap (λ d. lent d c.args.file) same)

pub returns-in_err-reader-clause-images : goal.returns-in_err-reader-clause-images
returns-in_err-reader-clause-images g c = λ h.
    let same : g.V.Device.directory c.self.inside.dir ≡ c.args.self.now.directory = ap (λ a. a.directory) c.self.view_is in
    old_or_new _ _ _ _ c.requires.unlent (steps_lent c.args.file (spelling c.args.stone) _ _ c.requires.unlent (c.prepare.ensures.lent h ∙ ap (λ d. lent d c.args.file) same))

pub returns-in_err-reader-clause-anchored : goal.returns-in_err-reader-clause-anchored
returns-in_err-reader-clause-anchored g c =
    let same : g.V.Device.directory c.self.inside.dir ≡ c.args.self.now.directory = ap (λ a. a.directory) c.self.view_is in
    anchored_lent g.V.Device.honest _ _ _ c.args.file (subst (λ d. d.now.ceiling ≤ c.args.file) (sym same) c.requires.unlent) c.prepare.ensures.lent c.self.invariant

pub invariant_of-self-in_err-reserve : goal.invariant_of-self-in_err-reserve
invariant_of-self-in_err-reserve g c =
    let same : g.V.Device.directory c.self.inside.dir ≡ c.args.self.now.directory = ap (λ a. a.directory) c.self.view_is in
    rw c.reserve.ensures.items (anchored_lent g.V.Device.honest _ _ _ c.args.file (subst (λ d. d.now.ceiling ≤ c.args.file) (sym same) c.requires.unlent) c.prepare.ensures.lent c.self.invariant)

pub returns-in_err-reserve-clause-any_moment : goal.returns-in_err-reserve-clause-any_moment
returns-in_err-reserve-clause-any_moment g c = λ h.
    let same : g.V.Device.directory c.self.inside.dir ≡ c.args.self.now.directory = ap (λ a. a.directory) c.self.view_is in
    steps_lent _ _ _ _ c.requires.unlent (c.prepare.ensures.lent h ∙ ap (λ d. lent d c.args.file) same)

pub returns-in_err-reserve-clause-images : goal.returns-in_err-reserve-clause-images
returns-in_err-reserve-clause-images g c = λ h.
    let same : g.V.Device.directory c.self.inside.dir ≡ c.args.self.now.directory = ap (λ a. a.directory) c.self.view_is in
    old_or_new _ _ _ _ c.requires.unlent (steps_lent c.args.file (spelling c.args.stone) _ _ c.requires.unlent (c.prepare.ensures.lent h ∙ ap (λ d. lent d c.args.file) same))

pub returns-in_err-reserve-clause-anchored : goal.returns-in_err-reserve-clause-anchored
returns-in_err-reserve-clause-anchored g c =
    let same : g.V.Device.directory c.self.inside.dir ≡ c.args.self.now.directory = ap (λ a. a.directory) c.self.view_is in
    rw c.reserve.ensures.items (anchored_lent g.V.Device.honest _ _ _ c.args.file (subst (λ d. d.now.ceiling ≤ c.args.file) (sym same) c.requires.unlent) c.prepare.ensures.lent c.self.invariant)

pub invariant_of-self-in_err-point_and_settle : goal.invariant_of-self-in_err-point_and_settle
invariant_of-self-in_err-point_and_settle g c =
    anchored_pointed g.V.Device.honest _ _ _ _ _ c.args.file c.args.stone _
    (λ i. (c.join.ensures.older ∙ ap (λ xs. xs ++ c.self.inside.last ∷ []) c.reserve.ensures.items) i ++ c.join.ensures.last i ∷ [])
    c.in_ok-reader.ensures.bytes c.prepare.ensures.lent c.in_err-point_and_settle.ensures.failed c.in_err-point_and_settle.ensures.possible c.in_ok-reader.ensures.readable c.self.invariant

pub returns-in_err-point_and_settle-clause-any_moment : goal.returns-in_err-point_and_settle-clause-any_moment
returns-in_err-point_and_settle-clause-any_moment g c = λ h.
    let same : g.V.Device.directory c.self.inside.dir ≡ c.args.self.now.directory = ap (λ a. a.directory) c.self.view_is in
    steps_on _ _ _ _ _ _ c.requires.unlent (c.in_ok-reader.ensures.bytes h) (c.prepare.ensures.lent h ∙ ap (λ d. lent d c.args.file) same) (c.in_err-point_and_settle.ensures.any_moment h c.args.file)

pub returns-in_err-point_and_settle-clause-images : goal.returns-in_err-point_and_settle-clause-images
returns-in_err-point_and_settle-clause-images g c = λ h.
    let same : g.V.Device.directory c.self.inside.dir ≡ c.args.self.now.directory = ap (λ a. a.directory) c.self.view_is in
    old_or_new _ _ _ _ c.requires.unlent
    (steps_on c.args.file (spelling c.args.stone) _ _ _ _ c.requires.unlent (c.in_ok-reader.ensures.bytes h) (c.prepare.ensures.lent h ∙ ap (λ d. lent d c.args.file) same) (c.in_err-point_and_settle.ensures.any_moment h c.args.file))

pub returns-in_err-point_and_settle-clause-anchored : goal.returns-in_err-point_and_settle-clause-anchored
returns-in_err-point_and_settle-clause-anchored g c =
    anchored_pointed g.V.Device.honest _ _ _ _ _ c.args.file c.args.stone _
    (λ i. (c.join.ensures.older ∙ ap (λ xs. xs ++ c.self.inside.last ∷ []) c.reserve.ensures.items) i ++ c.join.ensures.last i ∷ [])
    c.in_ok-reader.ensures.bytes c.prepare.ensures.lent c.in_err-point_and_settle.ensures.failed c.in_err-point_and_settle.ensures.possible c.in_ok-reader.ensures.readable c.self.invariant

pub returns-clause-any_moment : goal.returns-clause-any_moment
returns-clause-any_moment g c = λ h.
    let same : g.V.Device.directory c.self.inside.dir ≡ c.args.self.now.directory = ap (λ a. a.directory) c.self.view_is in
    steps_on _ _ _ _ _ _ c.requires.unlent (c.in_ok-reader.ensures.bytes h) (c.prepare.ensures.lent h ∙ ap (λ d. lent d c.args.file) same) (c.in_ok-point_and_settle.ensures.any_moment h c.args.file)

pub returns-clause-images : goal.returns-clause-images
returns-clause-images g c = λ h.
    let same : g.V.Device.directory c.self.inside.dir ≡ c.args.self.now.directory = ap (λ a. a.directory) c.self.view_is in
    old_or_new _ _ _ _ c.requires.unlent
    (steps_on c.args.file (spelling c.args.stone) _ _ _ _ c.requires.unlent (c.in_ok-reader.ensures.bytes h) (c.prepare.ensures.lent h ∙ ap (λ d. lent d c.args.file) same) (c.in_ok-point_and_settle.ensures.any_moment h c.args.file))
