use Rattle.mpslp_lp.proofs.Prelude.{◌≡◌, cons_option, least_kind, token_faults}
use Rattle.mpslp_lp.proofs.read_line.lexical_fault_of.Given as goal

-- the result depends on the least error so far and on the tokens that are left
abbrev pub invariant-loop-raw_token : goal.invariant-loop-raw_token
invariant-loop-raw_token l = record {
  next : (goal.iterator-loop-raw_token).can_next l.raw_token-iterator;
  finite : (goal.iterator-loop-raw_token).is_finite l.raw_token-iterator;
  least : least_kind (cons_option l.least (token_faults l.raw_token-iterator)) ≡ least_kind (token_faults l.fn.tokens);
}
