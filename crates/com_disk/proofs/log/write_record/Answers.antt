use Rattle.std.proofs.Common.{rules, ◌≡◌, List, ℕ, length, ◌++◌, ◌∷◌, [], take, drop, inl, ◌∙◌, sym, ap, subst}
use Rattle.com_disk.specs.Disks.{Holds, IsTorn, Follows}
use Rattle.com_disk.specs.Logs.{IsShut}
use Rattle.com_disk.specs.inner.Shut.{IsShutOrLonger}
use Rattle.com_disk.proofs.Moments.{started, goes_on}
use Rattle.com_disk.proofs.Gates.{stage_crash, staged, torn_shut, gate_crash, opened, longer}
use Rattle.com_disk.proofs.log.write_record.Goals as goal

pub returns-in_err-write_at-clause-any_moment : goal.returns-in_err-write_at-clause-any_moment
returns-in_err-write_at-clause-any_moment g c t front bare is s =
    let moment = g.D.Disk.moment in
    let since = g.D.Disk.since in
    let images = g.D.Disk.images in
    let content = g.D.Disk.content in
    let disk = c.args.disk.now in
    let at = c.args.gate in
    let first = stage_crash front at s.place _ (content disk) (images disk) (images c.write_at.new.self) s.shut s.durable (c.write_at.ensures.images t) in
    let P = IsShutOrLonger front bare in
    let at_start = started moment since disk P (λ f left. inl (subst (IsShut front) (sym (s.durable f (g.met.D.Disk.only_now disk f t left))) s.shut)) in
    let behind = goes_on moment since disk disk c.write_at.new.self P _ at_start (c.write_at.ensures.time t) (λ f now. inl (first f now)) in
    behind

pub returns-in_err-sync-clause-any_moment : goal.returns-in_err-sync-clause-any_moment
returns-in_err-sync-clause-any_moment g c t front bare is s =
    let moment = g.D.Disk.moment in
    let since = g.D.Disk.since in
    let images = g.D.Disk.images in
    let content = g.D.Disk.content in
    let disk = c.args.disk.now in
    let at = c.args.gate in
    let first = stage_crash front at s.place _ (content disk) (images disk) (images c.write_at.new.self) s.shut s.durable (c.write_at.ensures.images t) in
    let P = IsShutOrLonger front bare in
    let at_start = started moment since disk P (λ f left. inl (subst (IsShut front) (sym (s.durable f (g.met.D.Disk.only_now disk f t left))) s.shut)) in
    let behind = goes_on moment since disk disk c.write_at.new.self P _ at_start (c.write_at.ensures.time t) (λ f now. inl (first f now)) in
    let kept = goes_on moment since disk c.write_at.new.self c.sync.new.self P _ behind (c.sync.ensures.time t) (λ f now. inl (first f (c.sync.ensures.images t f now))) in
    kept

pub returns-in_err-write_at-2-clause-any_moment : goal.returns-in_err-write_at-2-clause-any_moment
returns-in_err-write_at-2-clause-any_moment g c t front bare is s =
    let moment = g.D.Disk.moment in
    let since = g.D.Disk.since in
    let images = g.D.Disk.images in
    let content = g.D.Disk.content in
    let disk = c.args.disk.now in
    let at = c.args.gate in
    let first = stage_crash front at s.place _ (content disk) (images disk) (images c.write_at.new.self) s.shut s.durable (c.write_at.ensures.images t) in
    let P = IsShutOrLonger front bare in
    let at_start = started moment since disk P (λ f left. inl (subst (IsShut front) (sym (s.durable f (g.met.D.Disk.only_now disk f t left))) s.shut)) in
    let behind = goes_on moment since disk disk c.write_at.new.self P _ at_start (c.write_at.ensures.time t) (λ f now. inl (first f now)) in
    let kept = goes_on moment since disk c.write_at.new.self c.sync.new.self P _ behind (c.sync.ensures.time t) (λ f now. inl (first f (c.sync.ensures.images t f now))) in
    let gated = c.args.gated.now in
    let rear = c.split_at.result.1.now in
    let opening : c.split_at.result.0.now ≡ 1 ∷ [] =
    let front_is : c.split_at.result.0.now ≡ take 1 gated = search rules in
    front_is ∙ ap (λ (l : List ℕ). take 1 l) is in
    let rear_is : rear ≡ bare ++ 0 ∷ [] =
    let rest_is : rear ≡ drop 1 gated = search rules in
    rest_is ∙ ap (λ (l : List ℕ). drop 1 l) is in
    let is_staged = staged front at s.place bare rear (content disk) (content c.write_at.new.self) rear_is s.shut (c.in_ok-write_at.ensures.written t) in
    let torn = subst (λ (l : List ℕ). Follows (IsTorn at (length l)) (images c.sync.new.self) (images c.write_at-2.new.self)) opening (c.write_at-2.ensures.images t) in
    let second = gate_crash front at s.place bare (content c.write_at.new.self) (images c.sync.new.self) (images c.write_at-2.new.self) is_staged (c.in_ok-sync.ensures.durable t) torn in
    let open_gate = goes_on moment since disk c.sync.new.self c.write_at-2.new.self P _ kept (c.write_at-2.ensures.time t) (λ f now. second f now) in
    open_gate

pub returns-in_err-sync-2-clause-any_moment : goal.returns-in_err-sync-2-clause-any_moment
returns-in_err-sync-2-clause-any_moment g c t front bare is s =
    let moment = g.D.Disk.moment in
    let since = g.D.Disk.since in
    let images = g.D.Disk.images in
    let content = g.D.Disk.content in
    let disk = c.args.disk.now in
    let at = c.args.gate in
    let first = stage_crash front at s.place _ (content disk) (images disk) (images c.write_at.new.self) s.shut s.durable (c.write_at.ensures.images t) in
    let P = IsShutOrLonger front bare in
    let at_start = started moment since disk P (λ f left. inl (subst (IsShut front) (sym (s.durable f (g.met.D.Disk.only_now disk f t left))) s.shut)) in
    let behind = goes_on moment since disk disk c.write_at.new.self P _ at_start (c.write_at.ensures.time t) (λ f now. inl (first f now)) in
    let kept = goes_on moment since disk c.write_at.new.self c.sync.new.self P _ behind (c.sync.ensures.time t) (λ f now. inl (first f (c.sync.ensures.images t f now))) in
    let gated = c.args.gated.now in
    let rear = c.split_at.result.1.now in
    let opening : c.split_at.result.0.now ≡ 1 ∷ [] =
    let front_is : c.split_at.result.0.now ≡ take 1 gated = search rules in
    front_is ∙ ap (λ (l : List ℕ). take 1 l) is in
    let rear_is : rear ≡ bare ++ 0 ∷ [] =
    let rest_is : rear ≡ drop 1 gated = search rules in
    rest_is ∙ ap (λ (l : List ℕ). drop 1 l) is in
    let is_staged = staged front at s.place bare rear (content disk) (content c.write_at.new.self) rear_is s.shut (c.in_ok-write_at.ensures.written t) in
    let torn = subst (λ (l : List ℕ). Follows (IsTorn at (length l)) (images c.sync.new.self) (images c.write_at-2.new.self)) opening (c.write_at-2.ensures.images t) in
    let second = gate_crash front at s.place bare (content c.write_at.new.self) (images c.sync.new.self) (images c.write_at-2.new.self) is_staged (c.in_ok-sync.ensures.durable t) torn in
    let open_gate = goes_on moment since disk c.sync.new.self c.write_at-2.new.self P _ kept (c.write_at-2.ensures.time t) (λ f now. second f now) in
    let ended = goes_on moment since disk c.write_at-2.new.self c.sync-2.new.self P _ open_gate (c.sync-2.ensures.time t) (λ f now. second f (c.sync-2.ensures.images t f now)) in
    ended

pub returns-clause-any_moment : goal.returns-clause-any_moment
returns-clause-any_moment g c t front bare is s =
    let moment = g.D.Disk.moment in
    let since = g.D.Disk.since in
    let images = g.D.Disk.images in
    let content = g.D.Disk.content in
    let disk = c.args.disk.now in
    let at = c.args.gate in
    let first = stage_crash front at s.place _ (content disk) (images disk) (images c.write_at.new.self) s.shut s.durable (c.write_at.ensures.images t) in
    let P = IsShutOrLonger front bare in
    let at_start = started moment since disk P (λ f left. inl (subst (IsShut front) (sym (s.durable f (g.met.D.Disk.only_now disk f t left))) s.shut)) in
    let behind = goes_on moment since disk disk c.write_at.new.self P _ at_start (c.write_at.ensures.time t) (λ f now. inl (first f now)) in
    let kept = goes_on moment since disk c.write_at.new.self c.sync.new.self P _ behind (c.sync.ensures.time t) (λ f now. inl (first f (c.sync.ensures.images t f now))) in
    let gated = c.args.gated.now in
    let rear = c.split_at.result.1.now in
    let opening : c.split_at.result.0.now ≡ 1 ∷ [] =
    let front_is : c.split_at.result.0.now ≡ take 1 gated = search rules in
    front_is ∙ ap (λ (l : List ℕ). take 1 l) is in
    let rear_is : rear ≡ bare ++ 0 ∷ [] =
    let rest_is : rear ≡ drop 1 gated = search rules in
    rest_is ∙ ap (λ (l : List ℕ). drop 1 l) is in
    let is_staged = staged front at s.place bare rear (content disk) (content c.write_at.new.self) rear_is s.shut (c.in_ok-write_at.ensures.written t) in
    let torn = subst (λ (l : List ℕ). Follows (IsTorn at (length l)) (images c.sync.new.self) (images c.write_at-2.new.self)) opening (c.write_at-2.ensures.images t) in
    let second = gate_crash front at s.place bare (content c.write_at.new.self) (images c.sync.new.self) (images c.write_at-2.new.self) is_staged (c.in_ok-sync.ensures.durable t) torn in
    let open_gate = goes_on moment since disk c.sync.new.self c.write_at-2.new.self P _ kept (c.write_at-2.ensures.time t) (λ f now. second f now) in
    let ended = goes_on moment since disk c.write_at-2.new.self c.sync-2.new.self P _ open_gate (c.sync-2.ensures.time t) (λ f now. second f (c.sync-2.ensures.images t f now)) in
    ended

pub returns-in_err-write_at-2-clause-still : goal.returns-in_err-write_at-2-clause-still
returns-in_err-write_at-2-clause-still g c failed t front s =
    let moment = g.D.Disk.moment in
    let since = g.D.Disk.since in
    let images = g.D.Disk.images in
    let content = g.D.Disk.content in
    let disk = c.args.disk.now in
    let at = c.args.gate in
    let is_shut = torn_shut front at s.place _ (content disk) (content c.write_at.new.self) s.shut (c.write_at.ensures.torn t) in
    let same : content c.write_at-2.new.self ≡ content c.sync.new.self = search rules in
    let unmoved : (f : List ℕ) → images c.write_at-2.new.self f → images c.sync.new.self f = search rules in
    record {
      shut = subst (IsShut front) (sym (same ∙ c.sync.ensures.content t)) is_shut;
      place = s.place;
      durable = λ f now. c.in_ok-sync.ensures.durable t f (unmoved f now) ∙ sym (same ∙ c.sync.ensures.content t);
    }

pub returns-in_err-write_at-2-clause-no_moment : goal.returns-in_err-write_at-2-clause-no_moment
returns-in_err-write_at-2-clause-no_moment g c failed t front s =
    let moment = g.D.Disk.moment in
    let since = g.D.Disk.since in
    let images = g.D.Disk.images in
    let content = g.D.Disk.content in
    let disk = c.args.disk.now in
    let at = c.args.gate in
    let first = stage_crash front at s.place _ (content disk) (images disk) (images c.write_at.new.self) s.shut s.durable (c.write_at.ensures.images t) in
    let P = IsShut front in
    let at_start = started moment since disk P (λ f left. subst (IsShut front) (sym (s.durable f (g.met.D.Disk.only_now disk f t left))) s.shut) in
    let behind = goes_on moment since disk disk c.write_at.new.self P _ at_start (c.write_at.ensures.time t) (λ f now. first f now) in
    let kept = goes_on moment since disk c.write_at.new.self c.sync.new.self P _ behind (c.sync.ensures.time t) (λ f now. first f (c.sync.ensures.images t f now)) in
    let unmoved : (f : List ℕ) → images c.write_at-2.new.self f → images c.sync.new.self f = search rules in
    goes_on moment since disk c.sync.new.self c.write_at-2.new.self P _ kept (c.write_at-2.ensures.time t) (λ f now. first f (c.sync.ensures.images t f (unmoved f now)))

pub returns-clause-opened : goal.returns-clause-opened
returns-clause-opened g c t front bare is s =
    let moment = g.D.Disk.moment in
    let since = g.D.Disk.since in
    let images = g.D.Disk.images in
    let content = g.D.Disk.content in
    let disk = c.args.disk.now in
    let at = c.args.gate in
    let gated = c.args.gated.now in
    let rear = c.split_at.result.1.now in
    let opening : c.split_at.result.0.now ≡ 1 ∷ [] =
    let front_is : c.split_at.result.0.now ≡ take 1 gated = search rules in
    front_is ∙ ap (λ (l : List ℕ). take 1 l) is in
    let rear_is : rear ≡ bare ++ 0 ∷ [] =
    let rest_is : rear ≡ drop 1 gated = search rules in
    rest_is ∙ ap (λ (l : List ℕ). drop 1 l) is in
    let is_staged = staged front at s.place bare rear (content disk) (content c.write_at.new.self) rear_is s.shut (c.in_ok-write_at.ensures.written t) in
    let written = subst (λ (l : List ℕ). Holds (content c.sync.new.self) at l (content c.write_at-2.new.self)) opening (c.in_ok-write_at-2.ensures.written t) in
    let holds = subst (λ f. Holds f at (1 ∷ []) (content c.write_at-2.new.self)) (c.sync.ensures.content t) written in
    record {
      shut = subst (IsShut (front ++ 1 ∷ bare)) (sym (c.sync-2.ensures.content t)) (opened front at s.place bare (content c.write_at.new.self) (content c.write_at-2.new.self) is_staged holds);
      place = longer front bare at s.place;
      durable = λ f now. c.in_ok-sync-2.ensures.durable t f now ∙ sym (c.sync-2.ensures.content t);
    }
