mod RestLaws
