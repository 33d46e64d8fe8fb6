use Rattle.std.proofs.Common.{arith, codes, inl, inr, refl, sym, true≢false}
use Rattle.std.specs.Fmt.{digits}
use Rattle.lex_semantics.specs.Run.{first_state}
use Rattle.lexlook_counts.proofs.Exampled.{one≢zero, over_one, over_two, stopped_none, three_reach}
use Rattle.lexlook_counts.proofs.laws.examples_of_counts.Goals as goal

pub returns : goal.returns
unfolding digits
returns c = record {
  tokens = refl;
  looked = (
    record { looked = 3; reach = three_reach (codes "abcde") 0 3 (omega arith) (inl refl) (omega arith); beyond_is = refl },
    (
      record { looked = 3; reach = three_reach (codes "abcde") 1 3 (omega arith) (inl refl) (omega arith); beyond_is = refl },
      (record { looked = 2; reach = three_reach (codes "abcde") 3 2 (omega arith) (inr (omega arith, refl)) (omega arith); beyond_is = refl }, tt),
    ),
  );
  first = refl;
  second = refl;
  default_rule = refl;
  outer = refl;
  inner = refl;
  in_column = refl;
  matched = refl;
  never = refl;
  none = refl;
  placed = refl;
  json = refl;
  walks = record {
    marked = record { inside = omega arith; goes = (refl, λ some. refl, over_two); known = omega arith };
    elsewhere = λ h. true≢false (sym (h.goes.2 1 (omega arith) (omega arith)));
    too_near = λ h. one≢zero (sym h.goes.0);
    stopped = record { inside = omega arith; goes = (refl, λ some. refl, over_two); known = omega arith; walked = omega arith; stops = inr (omega arith, refl) };
    ended = record { inside = omega arith; goes = (refl, λ some. refl, over_one); known = omega arith; walked = omega arith; stops = inl refl };
    not_yet = λ h. stopped_none h.stops;
  };
  whole = record {
    exit = refl;
    others = refl;
    last = refl;
    met = refl;
    exited = refl;
    empty = (0, first_state, refl, refl, refl, refl);
    in_columns = refl;
    as_json = refl;
    two_rules = refl;
    given_up = refl;
    no_end = refl;
  };
}
