-- The first limit that a state is past: by its number the definitions' `limit_past` (`limit-past`), and none exactly if the state is within every limit (`limit-fits`).
use Rattle.machine.proofs.Words.{arith, ◌≡◌, sym, ap, ◌∙◌, true, None, is_none, State}
use Rattle.protocol.specs.Whole.{cache_fits, fits}
use Rattle.decide.specs.Sizes.{sizes_of}
use Rattle.machine.specs.Limit.{limit_told, first_limit, state_limit}
use Rattle.machine.specs.LimitMet.LimitMet.{limit_past}

module _ (s : State) where
  pub limit-past : limit_told (state_limit s) ≡ limit_past s
  unfolding limit_past cache_fits first_limit sizes_of
  limit-past = grind arith

  pub limit-fits : is_none (state_limit s) ≡ fits s
  unfolding fits cache_fits first_limit sizes_of
  limit-fits = grind arith

  pub fits-none : fits s ≡ true → None ≡ state_limit s
  fits-none f = grind (arith, limit-fits ∙ f)

  pub none-fits : None ≡ state_limit s → fits s ≡ true
  none-fits e = sym (ap is_none e ∙ limit-fits)
