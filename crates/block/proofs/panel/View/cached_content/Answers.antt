-- Start and length are those of the content in the view.
use Rattle.block.proofs.Words.{◌+◌, ◌≤◌, ap, ◌∙◌, length, arith, length_part}
use Rattle.block.specs.View.{state_of}
use Rattle.block.proofs.CachesLaws.ContentReads.{content-ends, content-is}
use Rattle.block.proofs.panel.View.cached_content.Goals as goal
use Rattle.block.proofs.panel.View.cached_content.Goals.{After-start}

ends : (c : After-start) → c.extent_of-extent.result.start + c.extent_of-extent.result.len ≤ c.args.self.now.head.now.live.contents
ends c =
    let v = c.args.self.now in
    content-ends v.head.now v.block.now v.sound c.args.entry c.requires c.cached_row-row.result c.cached_row-row.ensures.at c.extent_of-extent.result c.extent_of-extent.ensures

within : (c : After-start) → c.start.result + c.extent_of-extent.result.start + c.extent_of-extent.result.len ≤ length c.args.self.now.block.now
within c = omega (arith, ends c, c.start.ensures, c.args.self.now.sound.fit)

pub content_part-requires : goal.content_part-requires
content_part-requires c = within ((goal.at.content_part-requires c).After-start)

pub returns-clause-content : goal.returns-clause-content
returns-clause-content c =
    let v = c.args.self.now in
    c.content_part.ensures
    ∙ content-is v.head.now v.block.now v.sound c.args.entry c.requires c.cached_row-row.result c.cached_row-row.ensures.at c.extent_of-extent.result c.extent_of-extent.ensures c.start.result c.start.ensures

pub returns-clause-few : goal.returns-clause-few
unfolding state_of
returns-clause-few c =
    let d = (goal.at.returns-clause-few c).After-start in
    let v = c.args.self.now in
    omega (arith, ap length c.content_part.ensures, length_part (c.start.result + c.extent_of-extent.result.start) c.extent_of-extent.result.len v.block.now (within d), ends d, v.sound.fit.within.contents)
