use Rattle.std.proofs.Common.{slice_get, None, Option, Some, ap, length, rules, subst, sym, ◌∙◌, ◌≡◌, ℕ}
use Rattle.bforest_trees.proofs.Changed.{live-root}
use Rattle.bforest_trees.specs.Forest.{IsLive, list_of}
use Rattle.bforest_trees.specs.Looks.{IsLook}
use Rattle.bforest_trees.proofs.look.Look.enter_first.Goals as goal

pub enter_under-requires : goal.enter_under-requires
enter_under-requires g c =
    let handle : c.args.handle ≡ Some c.in-Some.root = sym c.expand.ensures.value ∙ c.in-Some.is in
    (search rules, (c.requires.union, live-root c.args.pool.now c.in-Some.root (subst (λ (h : Option ℕ). IsLive c.args.pool.now h) handle c.requires.live)))

pub returns-in-Some : goal.returns-in-Some
returns-in-Some g c =
    let some : c.args.handle ≡ Some c.in-Some.root = sym c.expand.ensures.value ∙ c.in-Some.is in
    record {
      value = c.enter_under.ensures.value ∙ ap (λ h. slice_get (list_of c.args.pool.now h) 0) (sym some);
      look = subst (λ (h : Option ℕ). IsLook c.args.pool.now h c.enter_under.new.self 0) (sym some) c.enter_under.ensures.look;
    }

pub returns-in-None : goal.returns-in-None
returns-in-None g c =
    let none : c.args.handle ≡ None = sym c.expand.ensures.value ∙ c.in-None.is in
    record {
      value = ap (λ h. slice_get (list_of c.args.pool.now h) 0) (sym none);
      look = subst (IsLook c.args.pool.now c.args.handle c.end.result) (ap (λ h. length (list_of c.args.pool.now h)) none) (c.end.ensures.look c.args.pool.now c.args.handle);
    }
