use Rattle.std.proofs.Common.{◌≡◌, ◌∙◌, Bool, None, Some, cond, slice_get, slice_index_or, ap, sym}
use Rattle.std.specs.Prelude.{Option}
use Rattle.std.proofs.lemmas.Option.{get_or_from_slice_get}
use Rattle.domain_transforms.specs.declared.resetting.Register.{Register}
use Rattle.domain_transforms.specs.Resetting.{place_from, register_of}
use Rattle.domain_transforms.proofs.RegisterLaws.{signal_there}
use Rattle.domain_transforms.proofs.resetting.reset_register.Goals as goal

pub sig_at-signal-requires : goal.sig_at-signal-requires
sig_at-signal-requires c =
    let q = c.args.pool.now in
    let s = c.args.s in
    let was : slice_index_or c.args.places.now s None ≡ Some c.in_ok-target.target = c.in_ok-target.was in
    let placed : place_from s 0 q.exprs ≡ Some c.in_ok-target.target = sym (get_or_from_slice_get c.args.places.now s (place_from s 0 q.exprs) None (c.requires.places.each s c.requires.signal)) ∙ was in
    signal_there q s c.in_ok-target.target c.count.ensures.rules placed

pub returns : goal.returns
returns c =
    let q = c.args.pool.now in
    let s = c.args.s in
    let x = c.sig_at-signal.result.now in
    let was : slice_index_or c.args.places.now s None ≡ Some c.in_ok-target.target = c.in_ok-target.was in
    let placed : place_from s 0 q.exprs ≡ Some c.in_ok-target.target = sym (get_or_from_slice_get c.args.places.now s (place_from s 0 q.exprs) None (c.requires.places.each s c.requires.signal)) ∙ was in
    let some : Option Register = Some (record { target = c.in_ok-target.target; init = x.init; shape = x.shape }) in
    sym
    (ap (λ (b : Bool). cond b (register_of (place_from s 0 q.exprs) (slice_get q.signals s)) None) c.if-not-driven.false
    ∙ ap (λ o. register_of o (slice_get q.signals s)) placed ∙ ap (register_of (Some c.in_ok-target.target)) c.sig_at-signal.ensures ∙ ap (λ (b : Bool). cond b None some) c.if-signal.false)
