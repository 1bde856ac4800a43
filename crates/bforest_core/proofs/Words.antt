-- Re-exports the definitions of the specs that proofs cite. Declares nothing.
pub use Rattle.bforest_core.proofs.rows.Shapes.{Heads, Row, Rows}
pub use Rattle.bforest_core.specs.Change.{AllocatesLeaf, AtUnder, Changes, EntryTaken, KeepsTrees, PlacedUnder, Plants, Shrinks}
pub use Rattle.bforest_core.specs.Climb.{Above, Over, Grown, GrownBy, Halved, HalvedBy, Inserted, KeyIs, LastAbove, LeafHalved, NextIs, OneAbove, Placed, Raised, SameBelow}
pub use Rattle.bforest_core.specs.Descent.{Descended, GoesThrough, HasBelow, IsFirst, IsFrom, IsLast, IsRooted, IsUpTo, Led, LedUp, NodeOver, OnBelow, Reached}
pub use Rattle.bforest_core.specs.Levels.{FitRow, IsFit, LevelNode, Solid, Stacked, Topped, Tree, flat, half_of, head_of, heads, least, node, numbers, sizes}
pub use Rattle.bforest_core.specs.Paths.{InsertsHere, OnEntry, OnLeaf, Placing, PointsTo, Standing, StandsAt, StandsOn, index_of, leaf_of, list_under, path_root, place_in}
pub use Rattle.bforest_core.specs.Place.{Distinct, IsAt, IsIn, IsPathAt, PointsAt, RowIn, RowsIn, Stands, StandsAbove, count, entry_before, entry_items}
pub use Rattle.bforest_core.specs.Removal.{Dropped, Emptied, HasOthers, Healed, Heals, IsSingle, Item, Joined, Joins, Keeps, LeafLoss, Loosened, LoosenedRows}
pub use Rattle.bforest_core.specs.Spots.{BeginsWith, Coded, CodedOver, Direction, EndsAt, Followed, HasBeside, HasNext, HasPrev, HasUnder, IsBesideOf, IsLeafAt, IsLower, IsSpotAt, IsTurn}
pub use Rattle.bforest_core.specs.Spots.{IsNearest, IsWay, Leads, NumberAt, SearchAt, Sided, Way, backwards, nearest, onwards, toward, without_last}
pub use Rattle.bforest_core.specs.Steps.{Advances, AreFirst, AreLast, HasOver, LastAt, MoreAt, Moved, OnLevels, OnOver, OnTree, Retreats, Turned, TurnedBack}
pub use Rattle.bforest_core.specs.Table.{IsBalancedAt, IsEntryAt, IsFreeAt, IsFullAt, IsSplitAt, IsHalfFullAt, IsUsed}
pub use Rattle.bforest_core.specs.Table.{GrowsFor, NeedsGrowth, PutsChild, PutsEntry, PutsIn, Table, down_from}
pub use Rattle.bforest_core.specs.Table.{free_count, fresh_nodes, front_of, front_of_new, reserved, room, slot_count, slots_with, value_at, with_freed, with_front}
pub use Rattle.bforest_core.specs.Trees.{Every, IsForest, IsUnion, OthersKeep, entries_of, inner_row, inner_rows, is_used, leaf_row, levels_below, numbers_down}
pub use Rattle.bforest_core.specs.{Chain.{IsChain, IsPool, chain_from, next_of}, Descent.{SearchThrough, StackedTo, StandsTo, Under, child_index}, Trees.slot}
pub use Rattle.bforest_core.specs.{Change.{StandsUnder, TakesNodes, node_count}, Spots.{OnUnder, leaf_count, leaf_place, place_by}}
pub use Rattle.bforest_core.specs.{Climb.{TwoAbove, nodes_up, top_of}, Leaves.{EndsIn, EndsOn, LooksInLeaf, Narrows, PutsInLeaf, SearchEndsAt, SearchSpot, TakesFromLeaf, entry_up_to}}
pub use Rattle.bforest_core.specs.{Levels.sizes_of, Steps.TurnedBy, Table.{with_node, with_slots, with_value_at, without_front}, declared.path.Path.Path}
pub use Rattle.bforest_core.specs.{Paths.{RemovesHere, spot}, Place.{entry_keys, first_number, inner_content, leaf_content, numbers_of, root_above, root_of}}
pub use Rattle.bforest_core.specs.Removal.{Loses, OnLevel, Rebuilt, Reduced, Rekeyed, Removed, Shrunk, StandsIn, Trimmed, Unbalanced, UpTo, content_at, half_at, most_at, numbers_under}
pub use Rattle.bforest_core.specs.{Trades.{Draws, Frees, Trades}, Ways.{CountsAt, EndsOnWay, Follows, HalvedOn, InsertsAt, LeadsUp, OnWay, PlacedIn, PlacedOn, Retraces, ShortOn, ShrinksOn, TakenOn}}
pub use Rattle.bforest_core.specs.Sizes.{gain_above, growth, inner_gain, leaf_gain, loss, loss_above, need, need_above, past, rebalanced, shrink, trimmed, without_next}
pub use Rattle.bforest_nodes.proofs.Found.{absent_at, place-present, present_at, search_of-keys_of, value_for-absent, value_for-present}
pub use Rattle.bforest_nodes.proofs.{Ordered.{place-here, place-later}, Searched.{all_greater_behind, count_up_to-no, count_up_to-none, count_up_to-yes}}
pub use Rattle.bforest_nodes.proofs.Seams.{around, last_taken}
pub use Rattle.bforest_nodes.specs.Content.{Balances, Content, Free, Inner, IsCut, IsFree, IsInner, IsLeaf, IsLeafCapacity, IsSameKind, Leaf, children_of}
pub use Rattle.bforest_nodes.specs.Content.{entry_capacity, entry_count, joined, left_half, left_share, put_answer, take_answer, vals_of, with_child}
pub use Rattle.bforest_nodes.specs.{Content.{with_entry, with_entry_key, with_key, with_put, with_taken, without_child, without_entry}, Search.{count_up_to, search_of}}
pub use Rattle.bforest_nodes.specs.Entries.{IsIncreasing, entry_for, is_present, place, rekeyed, value_at_place, value_for}
pub use Rattle.std.proofs.Common.{IsErrAnd, IsTrue, Option, Result, [], add-one, ap, append_assoc, arith, cond, drop, get_or, if◌then◌else◌, inl}
pub use Rattle.std.proofs.Common.{inr, insert, length, length-set, length-take-le, map, nat_eq, nat_le, nat_lt, not, refl, reverse, rules, set, slice_set}
pub use Rattle.std.proofs.Common.{subst, suc, sym, take, take-append-drop, true, vec_capacity, vec_len, zero, ℕ, ◌%◌, ◌*◌, ◌++◌, ◌+◌, ◌-◌, ◌/◌, ◌<◌, ◌==◌, ◌^◌}
pub use Rattle.std.proofs.lemmas.Bool.{and_parts, cases_lt, eq-eqb, eqb-false, false_from_ne_true, false≢true, le-leb, le-ltb, lt-leb, lt-ltb, ltb-true}
pub use Rattle.std.proofs.lemmas.List.{append-nil, drop_all, drop_at, get_or-append_right, get_or-set_other, get_or-set_same}
pub use Rattle.std.proofs.lemmas.List.{get_or_default, get_or_past, length-append, length-drop, length-map, length_push, map-append, nil_from_length}
pub use Rattle.std.proofs.lemmas.Option.{get_or_from_slice_get, slice_get-get_or, slice_get-map, slice_get_past, slice_get_read, slice_get_within}
pub use Rattle.std.proofs.{Common.{◌↔◌, ◌∙◌, ◌∷◌, ◌≡◌, ◌≢◌, ◌≤◌, ◌⊎◌}, Math.Nat.{le-div_iff_mul-le, mul-le-mul_left, mul_comm, pow-succ'}, lemmas.Nat.shr-shr}
pub use Rattle.std.proofs.{Math.Seq.drop-append_seam, lemmas.List.Concat.flat_map-append, lemmas.List.Sums.{count_by-le-length, sum_by-append, sum_by-cons}}
pub use Rattle.std.proofs.{lemmas.Bool.{not_from_false, not_from_true, or_parts}, lemmas.Map.Keys.{IsDistinct-cons, IsDistinct-head, IsDistinct-tail}}
pub use Rattle.std.proofs.{lemmas.Bool.Decides.{eqb_tells, same_from_decides}, lemmas.Map.Steps.length-le_from_distinct_below}
pub use Rattle.std.proofs.{lemmas.Cmp.alike_right, lemmas.Option.unwrap_or-slice_get, lemmas.Result.err_from_is_err_and}
pub use Rattle.std.proofs.{lemmas.List.{reverse-append, set-append_left, set-append_right, set-set, set_at, take_all, take_at}, lemmas.List.Edits.length-remove}
pub use Rattle.std.specs.{Cmp.IsTotalOrder, List.{AllByRecursion, flat_map, list_any, remove, sum_by, zip}, Ordering.{is_eq, is_gt, is_lt, ordering_reverse}}
pub use Rattle.std.specs.{Option.{IsSome, is_some, option_and_then, option_map}, Prelude.{Bool, Err, IfSome, List, None, Ok, Some, false, slice_get}}
unfoldable pub use Rattle.bforest_core.specs.Trees.{is_root, tree_of}
unfoldable pub use Rattle.std.specs.{List.IsDistinct, List.Sorted.IsStrictlySortedBy}
