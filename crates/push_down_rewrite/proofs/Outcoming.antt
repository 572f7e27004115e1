-- What a rewrite at a record comes to, of a Filter, of a Join, and of any other plan.
use Prim.Native.Nat.{ℕ}
use mathlib.Core.Path.{◌≡◌, refl, sym, ap, subst, ◌∙◌}
use mathlib.Core.Bool.{Bool, true, false}
use mathlib.Core.List.{List, []}
use mathlib.Core.Option.{Option}
use Rattle.std.specs.Prelude.{Option as Maybe, None, Some, Ok, Err, IfOk, IfSome, IsSomeAnd, MatchOption}
use Rattle.plan.specs.Lists.{◌&◌, all}
use Rattle.plan.specs.Syntax.{Expr, Kind, Pair, Plan}
use Rattle.plan.specs.Syntax.{filter, project, join, alias, union, distinct, sort, repartition, limit, aggregate, window}
use Rattle.plan.specs.Syntax.{pcons}
use Rattle.plan.specs.Measure.{size_p, depth_p}
use Rattle.plan.specs.Trees.{plan_tree}
use Rattle.image.specs.Limits.{max_records, max_list}
use borrow.Author.Tests.{le-leb}
use Rattle.plan.proofs.Lists.{and_true, and_intro}
use Rattle.rewrite.specs.Limits.{list_p, within_limits}
use Rattle.rewrite.specs.PushDownFilter.{Transformed, rewrite, merges, push_down_join}
use Rattle.rewrite.specs.RewriteAt.{Focus, result_fits}
use Rattle.answers.proofs.Depths.{deep_tested}
use Rattle.push_down_base.specs.Paths.{Ways}
use Rattle.push_down_base.proofs.Finding.{path_to}
use Rattle.push_down_merge.specs.Merging.{Inside}
use Rattle.push_down_merge.proofs.Tested.{few_records}
use Rattle.push_down_stays.specs.Staying.{Stays}
use Rattle.push_down_rewrite.specs.Outcomes.{Outcome, Finishes, Image, answer, Outcomes}

-- ---- what stands in the work space is known otherwise

pub finishes_as : {a b : List ℕ} {r : Outcome} {c : Focus} {ms : List Plan} {t : Transformed} → Finishes a r c ms t → b ≡ a → Finishes b r c ms t
finishes_as h e = rw e h

pub outcomes_as : {a b : List ℕ} {r : Outcome} {w : Plan} {c : Focus} → Outcomes a r w c → b ≡ a → Outcomes b r w c
outcomes_as h e = rw e h

-- ---- a plan that is written

-- the answer is written
pub outcomes : {work : List ℕ} {r : Outcome} {w : Plan} {c : Focus} → Finishes work r c (merges c.plan) (rewrite c.plan) → Outcomes work r w c
unfolding result_fits
outcomes {r = Err e} f = record { fit = f.fit; flag = tt; image = tt }
outcomes {work} {r = Ok o} {w} {c} f = record { fit = f.fit; flag = f.flag; image = go o.image f.image }
  where
    go : (i : Maybe ℕ) → IsSomeAnd i (λ n. Image work n (answer c)) → MatchOption i (answer c ≡ w) (λ n. Image work n (answer c))
    go None h = absurd h
    go (Some n) h = h

-- .. of a Filter
pub filter_outcomes : {work : List ℕ} {r : Outcome} {w : Plan} {c : Focus} {e : Expr} {q : Plan} → c.plan ≡ filter e q
    → Finishes work r c (merges (filter e q)) (rewrite (filter e q)) → Outcomes work r w c
filter_outcomes {work} {r} {c = c} is f = outcomes (subst (λ p. Finishes work r c (merges p) (rewrite p)) (sym is) f)

-- .. of a Join
pub join_outcomes : {work : List ℕ} {r : Outcome} {w : Plan} {c : Focus} {k : Kind} {l q : Plan} {on : List Pair} {f : Option Expr}
    → c.plan ≡ join k l q on f → Finishes work r c [] (push_down_join k l q on f []) → Outcomes work r w c
unfolding rewrite merges
join_outcomes {work} {r} {c = c} is f = outcomes (subst (λ p. Finishes work r c (merges p) (rewrite p)) (sym is) f)

-- ---- any other plan

-- what was found, put back in its place
ways : Ways (λ n p t C. C t ≡ p) (λ n ps t C. C t ≡ ps)
ways = record {
  root = λ p. refl;
  in_filter = λ n p t C e h. ap (filter e) h;
  in_project = λ n p t C es h. ap (project es) h;
  in_left = λ n l t C k r on f h. ap (λ q. join k q r on f) h;
  in_right = λ n r t C k l on f h. ap (λ q. join k l q on f) h;
  in_alias = λ n p t C i h. ap (alias i) h;
  in_union = λ n ps t C h. ap union h;
  in_distinct = λ n p t C h. ap distinct h;
  in_sort = λ n p t C f ks h. ap (sort f ks) h;
  in_repartition = λ n p t C h. ap repartition h;
  in_limit = λ n p t C i j h. ap (limit i j) h;
  in_aggregate = λ n p t C gs ags h. ap (aggregate gs ags) h;
  in_window = λ n p t C ws h. ap (window ws) h;
  in_first = λ n p t C ps h. ap (λ q. pcons q ps) h;
  in_later = λ n ps t C p h. ap (pcons p) h;
}

-- the image that was read is within the limits
read_fits : {s : List ℕ} {node : ℕ} {w : Plan} {c : Focus} → Inside s node w c → within_limits w ≡ true
unfolding within_limits depth_p
read_fits {w = w} h =
    and_intro (le-leb (size_p w) max_records (few_records h))
    (and_intro (deep_tested (plan_tree w) h.root.deep) (le-leb (list_p w) max_list h.lists))

-- one that stays
pub stays_outcomes : {work s : List ℕ} {b : Bool} {w : Plan} {node : ℕ} {c : Focus} → Inside s node w c → Stays b c.plan → b ≡ true
    → Outcomes work (Ok (record { flag = false; image = None })) w c
unfolding result_fits all
stays_outcomes {w = w} {node = node} {c = c} h u t =
    let k = u.kept.yes t in
    let back : answer c ≡ w = ap (λ t. c.back t.plan) k ∙ path_to ways node w c h.there in
    record {
      fit =
          sym (ap (λ ms. within_limits (answer c) & all (λ m. within_limits (c.back m)) ms) (u.unmerged t) ∙ and_true (within_limits (answer c))
          ∙ ap within_limits back
          ∙ read_fits h);
      flag = sym (ap (λ (t : Transformed). t.transformed) k);
      image = back;
    }

-- ---- what is written for a plan that does not stay

-- the place of what was found tells plans apart
apart : Ways (λ n p t C. (a b : Plan) → C a ≡ C b → a ≡ b) (λ n ps t C. (a b : Plan) → C a ≡ C b → a ≡ b)
apart = record {
  root = λ p a b e. e;
  in_filter = λ n p t C x h a b e. h a b (let i : C a ≡ C b = cc in i);
  in_project = λ n p t C es h a b e. h a b (let i : C a ≡ C b = cc in i);
  in_left = λ n l t C k r on f h a b e. h a b (let i : C a ≡ C b = cc in i);
  in_right = λ n r t C k l on f h a b e. h a b (let i : C a ≡ C b = cc in i);
  in_alias = λ n p t C i h a b e. h a b (let i : C a ≡ C b = cc in i);
  in_union = λ n ps t C h a b e. h a b (let i : C a ≡ C b = cc in i);
  in_distinct = λ n p t C h a b e. h a b (let i : C a ≡ C b = cc in i);
  in_sort = λ n p t C f ks h a b e. h a b (let i : C a ≡ C b = cc in i);
  in_repartition = λ n p t C h a b e. h a b (let i : C a ≡ C b = cc in i);
  in_limit = λ n p t C i j h a b e. h a b (let i : C a ≡ C b = cc in i);
  in_aggregate = λ n p t C gs ags h a b e. h a b (let i : C a ≡ C b = cc in i);
  in_window = λ n p t C ws h a b e. h a b (let i : C a ≡ C b = cc in i);
  in_first = λ n p t C ps h a b e. h a b (let i : C a ≡ C b = cc in i);
  in_later = λ n ps t C p h a b e. h a b (let i : C a ≡ C b = cc in i);
}

pub changed : {s : List ℕ} {b : Bool} {w : Plan} {node : ℕ} {c : Focus} (r : Outcome) → Inside s node w c → Stays b c.plan → b ≡ false
    → IfOk r (λ o. IfSome o.image (λ n. answer c ≡ w → ⊥))
changed (Err e) h u n = tt
changed {w = w} {node} {c} (Ok o) h u n = go o.image
  where
    go : (i : Maybe ℕ) → IfSome i (λ n. answer c ≡ w → ⊥)
    go None = tt
    go (Some k) = λ e. u.kept.no n (path_to apart node w c h.there (rewrite c.plan).plan c.plan (e ∙ sym (path_to ways node w c h.there)))
